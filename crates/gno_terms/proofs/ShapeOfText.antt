-- The first word of a text and what stands behind it tell the form of the term.
use Rattle.std.proofs.Common.{◌≡◌, refl, ap, ap₂, sym, ◌∙◌, true≢false, ℕ, true, false, not, ◌==◌, if◌then◌else◌, arith, List, [], ◌∷◌, ◌++◌, append_assoc, codes, bytes_eq}
use Rattle.std.specs.Fmt.{decimal}
use Rattle.std.specs.List.{list_all}
use Rattle.std.proofs.lemmas.Bool.{false_from_ne_true}
use Rattle.std.proofs.lemmas.Bool.Decides.{nat_tests}
use Rattle.gno_base.specs.Callers.{is_small_letter, is_digit}
use Rattle.gno_base.specs.declared.kind.Kind.{Kind}
use Rattle.gno_base.specs.declared.kind.Kind.TheVariants as k
use Rattle.gno_terms.specs.declared.term.GoType.{GoType}
use Rattle.gno_terms.specs.declared.term.TermOf.{TermOf}
use Rattle.gno_terms.specs.declared.term.TermOf.TheVariants as t
use Rattle.gno_terms.specs.Texts.{kind_text, member_text, local_text, term_text, type_text}
use Rattle.gno_terms.proofs.Words.{begins, stops, no_such, same_word}
use Rattle.gno_terms.proofs.Bytes.{in_name, in_word}
use Rattle.gno_terms.proofs.Joined.{is_end, ends}
use Rattle.gno_terms.proofs.Members.{defined_word, decimal_begins}
use Rattle.gno_terms.proofs.PathBytes.{path_begins}
use Rattle.gno_terms.proofs.Plain.{IsPlain}
use Rattle.gno_terms.proofs.Shapes.{Shape, basic, untyped, error, realm, defined, pointer, slice, array, table, function, struct, interface, shape, word_of, rest_of, parted, texts}

kind_word : (kind : Kind) → list_all in_word (kind_text kind) ≡ true
kind_word k.Bool = refl
kind_word _ = refl

is_word : (x : TermOf GoType) → IsPlain x → list_all in_word (word_of (texts x)) ≡ true
is_word (t.Basic kind) p = kind_word kind
is_word (t.Defined path name local) p = defined_word name path local p.1 p.0 p.2
is_word _ p = refl

end_stops : (r : List ℕ) → ends r ≡ true → stops in_word r ≡ true
end_stops [] e = refl
end_stops (b ∷ bs) e = no_word b e
  where
    no_word : (b : ℕ) → is_end b ≡ true → not (in_word b) ≡ true
    no_word b e = grind (arith, nat_tests)

word_stops : (x : TermOf GoType) (r : List ℕ) → ends r ≡ true → stops in_word (rest_of (texts x) ++ r) ≡ true
word_stops (t.Basic kind) r e = end_stops r e
word_stops (t.Defined path name local) r e = end_stops r e
word_stops t.UntypedBool r e = end_stops r e
word_stops t.UntypedWhole r e = end_stops r e
word_stops t.UntypedRune r e = end_stops r e
word_stops t.UntypedText r e = end_stops r e
word_stops t.UntypedNil r e = end_stops r e
word_stops t.Error r e = end_stops r e
word_stops t.Realm r e = end_stops r e
word_stops _ r e = refl

-- the shapes that have words of their own
abbrev entries : List (List ℕ × Shape)
entries = (codes "bool", basic k.Bool) ∷ (codes "string", basic k.Text) ∷ (codes "int", basic k.Int) ∷ (codes "int8", basic k.Int8) ∷ (codes "int16", basic k.Int16) ∷ (codes "int32", basic k.Int32)
    ∷ (codes "int64", basic k.Int64) ∷ (codes "uint", basic k.Uint) ∷ (codes "uint8", basic k.Uint8) ∷ (codes "uint16", basic k.Uint16) ∷ (codes "uint32", basic k.Uint32) ∷ (codes "uint64", basic k.Uint64)
    ∷ (codes "error", error) ∷ (codes "realm", realm) ∷ (codes "map", table) ∷ (codes "func", function) ∷ (codes "struct", struct) ∷ (codes "interface", interface) ∷ []

abbrev of_word : List (List ℕ × Shape) → List ℕ → Shape
of_word [] word = untyped
of_word (entry ∷ more) word = if bytes_eq word entry.0 then entry.1 else of_word more word

abbrev bracketed : List ℕ → Shape
bracketed [] = untyped
bracketed (b ∷ bs) = if b == 93 then slice else array

abbrev of_mark : List ℕ → Shape
of_mark [] = untyped
of_mark (b ∷ bs) = if b == 42 then pointer else bracketed bs

-- what has no name is told by its marks, and a defined type by the point in its word
abbrev shape_of : List ℕ → List ℕ → Shape
shape_of word rest = if list_all in_name word then (if bytes_eq word [] then of_mark rest else of_word entries word) else defined

kind_shape : (kind : Kind) (r : List ℕ) → shape_of (kind_text kind) r ≡ basic kind
kind_shape k.Bool r = refl
kind_shape _ r = refl

defined_shape : (path name local r : List ℕ) → (path ≡ [] → ⊥) → shape_of (member_text name path ++ local) r ≡ defined
defined_shape [] name local r n = absurd (n refl)
defined_shape (b ∷ path) name local r n =
    ap (λ test. if test then (if bytes_eq word [] then of_mark r else of_word entries word) else defined)
    (false_from_ne_true (list_all in_name word) (λ e. no_such in_name 46 refl (b ∷ path) (name ++ local) (ap (list_all in_name) (sym (append_assoc (b ∷ path) (46 ∷ name) local)) ∙ e)))
  where
    word : List ℕ
    word = ((b ∷ path) ++ (46 ∷ name)) ++ local

array_shape : (digits more r : List ℕ) → begins is_digit digits ≡ true → bracketed ((digits ++ more) ++ r) ≡ array
array_shape [] more r e = absurd (true≢false (sym e))
array_shape (d ∷ ds) more r e = ap (λ test. if test then slice else array) (no_bracket d e)
  where
    no_bracket : (d : ℕ) → is_digit d ≡ true → (d == 93) ≡ false
    no_bracket d e = grind (arith, nat_tests)

shape_is : (x : TermOf GoType) (r : List ℕ) → IsPlain x → shape_of (word_of (texts x)) (rest_of (texts x) ++ r) ≡ shape x
shape_is (t.Basic kind) r p = kind_shape kind r
shape_is t.UntypedBool r p = absurd p
shape_is t.UntypedWhole r p = absurd p
shape_is t.UntypedRune r p = absurd p
shape_is t.UntypedText r p = absurd p
shape_is t.UntypedNil r p = absurd p
shape_is (t.Defined path name local) r p = defined_shape path name (local_text local) r (λ e. true≢false (sym (path_begins path p.0) ∙ ap (begins is_small_letter) e))
shape_is (t.Array n a) r p = array_shape (decimal n) (codes "]" ++ type_text a) r (decimal_begins n p)
shape_is _ r p = refl

-- terms whose texts are the same before what ends them have one shape, and the same word and rest
pub alike : (x y : TermOf GoType) (r q : List ℕ) → IsPlain x → IsPlain y → ends r ≡ true → ends q ≡ true → term_text (texts x) ++ r ≡ term_text (texts y) ++ q
    → (shape x ≡ shape y) × (word_of (texts x) ≡ word_of (texts y)) × (rest_of (texts x) ++ r ≡ rest_of (texts y) ++ q)
alike x y r q h k c d e =
    let t = same_word in_word (word_of (texts x)) (word_of (texts y)) (rest_of (texts x) ++ r) (rest_of (texts y) ++ q) (is_word x h) (is_word y k) (word_stops x r c) (word_stops y q d)
    (sym (parted (texts x) r) ∙ e ∙ parted (texts y) q) in
    (sym (shape_is x r h) ∙ ap₂ shape_of t.0 t.1 ∙ shape_is y q k, t.0, t.1)
