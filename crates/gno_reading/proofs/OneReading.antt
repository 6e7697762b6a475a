-- A text is read as one thing.
use Rattle.std.proofs.Common.{◌≡◌, refl, sym, ap, ◌∙◌, subst, ℕ, List, [], Option, Some, None, Ok, Err, inl, inr, map}
use Rattle.gno_grammar.specs.declared.refusal.LeftOut.{LeftOut}
use Rattle.gno_grammar.specs.declared.refusal.Refusal.{Refusal}
use Rattle.gno_grammar.specs.Readers.{Outcome, got, refused}
use Rattle.gno_scan.specs.Scan.{Scans, IsFaultless, token_at}
use Rattle.gno_scan.specs.Places.{place_of}
use Rattle.gno_scan.specs.Tokens.{Fault}
use Rattle.gno_scan.proofs.OneAnswer.{one_fault, one_list, right_or_fault}
use Rattle.gno_scan.specs.declared.token.Pos.{Pos}
use Rattle.gno_scan.specs.declared.token.ScanFault.TheVariants.{At as ScanAt}
use Rattle.gno_scan.specs.declared.token.Token.{Token}
use Rattle.gno_tree.specs.declared.file.FileTree.{FileTree}
use Rattle.gno_rules.specs.Files.{IsOutcome}
use Rattle.gno_rule_laws.proofs.FileLaws.{same_outcome}
use Rattle.gno_first.specs.Form.{first_of}
use Rattle.gno_first.specs.declared.tree.FirstFile.{FirstFile}
use Rattle.gno_syntax.specs.Parsing.{code_of, form_of, refused_at, end_of}
use Rattle.gno_reading.specs.Readings.{HasForm, IsFirstFault, IsReading, IsSyntaxFault, IsTree}
use Rattle.gno_reading.specs.declared.reading.Reading.{Reading}
use Rattle.gno_reading.specs.declared.reading.Reading.TheVariants.{Faulty, NotFirst, First}

-- the tokens are one list
one_tokens : (text : List ℕ) (tokens other : List Token) → Scans 0 text (Ok tokens) → Scans 0 text (Ok other) → tokens ≡ other
one_tokens text tokens other (spans, h, e) (spans', h', e') = e ∙ ap (λ s. map (token_at 0 text) s) (one_list text spans spans' None None h.tokens h'.tokens).0 ∙ sym e'

-- a text with tokens has no fault of its tokens
no_scan_fault : (text : List ℕ) (tokens : List Token) (code : ℕ) (pos : Pos) → Scans 0 text (Ok tokens) → Scans 0 text (Err (ScanAt code pos)) → ⊥
no_scan_fault text tokens code pos (spans, h, e) (at, f, p) = right_or_fault text spans (record { code = code; at = at }) h f

abbrev faulty : ℕ → Pos → Option LeftOut → Reading
faulty code pos form = Faulty code pos form

one_scan_fault : (text : List ℕ) (code : ℕ) (pos : Pos) (form : Option LeftOut) (code' : ℕ) (pos' : Pos) (form' : Option LeftOut) → Scans 0 text (Err (ScanAt code pos)) → form ≡ None
    → Scans 0 text (Err (ScanAt code' pos')) → form' ≡ None → faulty code pos form ≡ faulty code' pos' form'
one_scan_fault text code pos form code' pos' form' (at, f, p) n (at', f', p') n' =
    let same = one_fault text (record { code = code; at = at }) (record { code = code'; at = at' }) f f' in
    let places : pos ≡ pos' = p ∙ ap (λ (fault : Fault). place_of 0 text fault.at) same ∙ sym p' in
    let forms : form ≡ form' = n ∙ sym n' in
    λ i. Faulty (same i).code (places i) (forms i)

abbrev refused_of : Outcome Token FileTree → Refusal → Refusal
refused_of (refused w rest) other = w
refused_of (got v rest) other = other

abbrev rest_of : Outcome Token FileTree → List Token
rest_of (refused w rest) = rest
rest_of (got v rest) = rest

one_syntax_fault : (text : List ℕ) (code : ℕ) (pos : Pos) (form : Option LeftOut) (code' : ℕ) (pos' : Pos) (form' : Option LeftOut) → IsSyntaxFault text code pos form → IsSyntaxFault text code' pos' form'
    → faulty code pos form ≡ faulty code' pos' form'
one_syntax_fault text code pos form code' pos' form' h h' =
    let tokens = one_tokens text h.tokens h'.tokens h.scanned h'.scanned in
    let (w, rest, o, c, f, p) = h.fault in
    let (w', rest', o', c', f', p') = h'.fault in
    let same = same_outcome text h.tokens (refused w rest) (refused w' rest') o (subst (λ ts. IsOutcome text ts (refused w' rest')) (sym tokens) o') in
    let refusals : w ≡ w' = ap (λ out. refused_of out w) same in
    let rests : rest ≡ rest' = ap rest_of same in
    let places : pos ≡ pos' = p ∙ (λ i. refused_at (end_of 0 text) (tokens i) (refusals i) (rests i)) ∙ sym p' in
    let codes : code ≡ code' = c ∙ ap code_of refusals ∙ sym c' in
    let forms : form ≡ form' = f ∙ ap form_of refusals ∙ sym f' in
    λ i. Faulty (codes i) (places i) (forms i)

one_first_fault : (text : List ℕ) (code : ℕ) (pos : Pos) (form : Option LeftOut) (code' : ℕ) (pos' : Pos) (form' : Option LeftOut) → IsFirstFault text code pos form → IsFirstFault text code' pos' form'
    → faulty code pos form ≡ faulty code' pos' form'
one_first_fault text code pos form code' pos' form' (inl (s, n)) (inl (s', n')) = one_scan_fault text code pos form code' pos' form' s n s' n'
one_first_fault text code pos form code' pos' form' (inl (s, n)) (inr h) = absurd (no_scan_fault text h.tokens code pos h.scanned s)
one_first_fault text code pos form code' pos' form' (inr h) (inl (s, n)) = absurd (no_scan_fault text h.tokens code' pos' h.scanned s)
one_first_fault text code pos form code' pos' form' (inr h) (inr h') = one_syntax_fault text code pos form code' pos' form' h h'

got_refused : {v : FileTree} {ts us : List Token} {w : Refusal} → got v ts ≡ refused w us → ⊥
got_refused e = cc

got_got : {v v' : FileTree} {ts us : List Token} → got v ts ≡ got v' us → v ≡ v'
got_got e = cc

-- a text with a tree has no fault
no_fault : (text : List ℕ) (form : Option FirstFile) (code : ℕ) (pos : Pos) (left : Option LeftOut) → HasForm text form → IsFirstFault text code pos left → ⊥
no_fault text form code pos left h (inl (s, n)) = no_scan_fault text h.read.tokens code pos h.read.scanned s
no_fault text form code pos left h (inr f) =
    let tokens = one_tokens text h.read.tokens f.tokens h.read.scanned f.scanned in
    let (w, rest, o, c, g, p) = f.fault in
    got_refused (same_outcome text h.read.tokens (got h.tree []) (refused w rest) h.read.read (subst (λ ts. IsOutcome text ts (refused w rest)) (sym tokens) o))

one_form : (text : List ℕ) (form form' : Option FirstFile) → HasForm text form → HasForm text form' → form ≡ form'
one_form text form form' h h' =
    let tokens = one_tokens text h.read.tokens h'.read.tokens h.read.scanned h'.read.scanned in
    let trees : h.tree ≡ h'.tree = got_got (same_outcome text h.read.tokens (got h.tree []) (got h'.tree []) h.read.read (subst (λ ts. IsOutcome text ts (got h'.tree [])) (sym tokens) h'.read.read)) in
    sym h.is ∙ ap first_of trees ∙ h'.is

none_some : {file : FirstFile} → None ≡ Some file → ⊥
none_some e = cc

some_some : {file file' : FirstFile} → Some file ≡ Some file' → file ≡ file'
some_some e = cc

pub one_reading : (text : List ℕ) (reading other : Reading) → IsReading text reading → IsReading text other → reading ≡ other
unfolding IsReading
one_reading text (Faulty code pos form) (Faulty code' pos' form') h h' = one_first_fault text code pos form code' pos' form' h h'
one_reading text (Faulty code pos form) NotFirst h h' = absurd (no_fault text None code pos form h' h)
one_reading text (Faulty code pos form) (First file) h h' = absurd (no_fault text (Some file) code pos form h' h)
one_reading text NotFirst (Faulty code pos form) h h' = absurd (no_fault text None code pos form h h')
one_reading text NotFirst NotFirst h h' = refl
one_reading text NotFirst (First file) h h' = absurd (none_some (one_form text None (Some file) h h'))
one_reading text (First file) (Faulty code pos form) h h' = absurd (no_fault text (Some file) code pos form h h')
one_reading text (First file) NotFirst h h' = absurd (none_some (sym (one_form text (Some file) None h h')))
one_reading text (First file) (First file') h h' = ap First (some_some (one_form text (Some file) (Some file') h h'))

-- a text is one file in the first form at most
pub one_first : (text : List ℕ) (file file' : FirstFile) → IsReading text (First file) → IsReading text (First file') → file ≡ file'
unfolding IsReading
one_first text file file' h h' = some_some (one_form text (Some file) (Some file') h h')
