-- The texts of methods lead to the interface.
use Rattle.std.proofs.Common.{◌≡◌, refl, ap, ap₂, sym, subst, ◌∙◌, true≢false, ℕ, true, false, cond, List, [], ◌∷◌, ◌++◌, append_assoc, codes, map, drop}
use Rattle.gno_terms.specs.declared.term.GoType.{GoType}
use Rattle.gno_terms.specs.declared.term.TermOf.{TermOf}
use Rattle.gno_terms.specs.declared.term.TermOf.TheVariants as t
use Rattle.gno_terms.specs.declared.term.MethodOf.{MethodOf}
use Rattle.gno_terms.specs.Lawful.{Each, is_function}
use Rattle.gno_terms.specs.Tables.{Table}
use Rattle.gno_terms.specs.Terms.{term_of}
use Rattle.gno_terms.specs.Texts.{joined, member_text, term_text, type_text}
use Rattle.gno_terms.proofs.Joined.{ends}
use Rattle.gno_terms.proofs.Openings.{text_of}
use Rattle.gno_terms.proofs.Plain.{IsPlainMethod}
use Rattle.gno_terms.proofs.Shapes.{texts}
use Rattle.gno_terms.proofs.Fields.{text_of_method}
use Rattle.gno_type_reading.specs.declared.frame.FrameOf.{FrameOf}
use Rattle.gno_type_reading.specs.declared.frame.FrameOf.TheVariants as frame
use Rattle.gno_type_reading.specs.declared.frame.ActionOf.TheVariants as act
use Rattle.gno_type_reading.specs.Turns.{Turn, turn, closed, methods, member, word_at, behind_word, method_with_type}
use Rattle.gno_type_reading.proofs.Leads.{LeadsTo, ActsTo, wants, by_closing, alike}
use Rattle.gno_type_reading.proofs.Separated.{behind, joined_behind}
use Rattle.gno_type_reading.proofs.Comes.{Comes}
use Rattle.gno_type_reading.proofs.Cuts.{member_of}
use Rattle.gno_type_reading.proofs.FieldLists.{front_member, behind_member, member_not}
use Rattle.gno_type_reading.proofs.Opened.{opened_function, opened_bare}

-- the text of a function is `func(` and what stands behind it
pub function_text : (s : GoType) → is_function (term_of s) ≡ true → type_text s ≡ codes "func(" ++ drop 5 (type_text s)
function_text s e = text_of s ∙ at (term_of s) e ∙ ap (λ l. codes "func(" ++ drop 5 l) (sym (text_of s))
  where
    at : (x : TermOf GoType) → is_function x ≡ true → term_text (texts x) ≡ codes "func(" ++ drop 5 (term_text (texts x))
    at (t.Function ps variadic rs) e = refl
    at _ e = absurd (true≢false (sym e))

-- behind a method's name
abbrev signature : MethodOf GoType → List ℕ → List ℕ
signature m r = 40 ∷ (drop 5 (type_text m.of) ++ r)

method_parts : (m : MethodOf GoType) (r : List ℕ) → is_function (term_of m.of) ≡ true → text_of_method m ++ r ≡ member_text m.name m.«package» ++ signature m r
method_parts m r f =
    append_assoc (member_text m.name m.«package») (drop 4 (type_text m.of)) r
    ∙ ap (λ l. member_text m.name m.«package» ++ (drop 4 l ++ r)) (function_text m.of f)

at_method : (before : List (MethodOf GoType)) (m : MethodOf GoType) (r : List ℕ) → IsPlainMethod m → methods before (member_text m.name m.«package» ++ signature m r) ≡ turn (act.Opened (frame.Method before (member_of m.name m.«package»))) (signature m r)
at_method before m r is =
    let text = member_text m.name m.«package» ++ signature m r in
    ap (λ c. cond c (turn (act.Made (t.Interface before)) (drop 1 text)) (turn (act.Opened (frame.Method before (member (word_at text)))) (behind_word text))) (member_not 125 refl m.name m.«package» (signature m r) is.0)
    ∙ ap₂ (λ n l. turn (act.Opened (frame.Method before n)) l) (front_member m.name m.«package» (signature m r) is.0 refl) (behind_member m.name m.«package» (signature m r) is.0 refl)

method_is : (m : MethodOf GoType) → m.pointer ≡ false → method_with_type (member_of m.name m.«package») m.of ≡ m
method_is m e = λ i. record { name = m.name; «package» = m.«package»; of = m.of; pointer = sym e i }

closed_last : (before : List (MethodOf GoType)) (m : MethodOf GoType) (r : List ℕ) → m.pointer ≡ false → closed (frame.Method before (member_of m.name m.«package»)) m.of (125 ∷ r) ≡ turn (act.Made (t.Interface (before ++ m ∷ []))) r
unfolding closed
closed_last before m r e = ap (λ n. turn (act.Made (t.Interface (before ++ n ∷ []))) r) (method_is m e)

closed_more : (before : List (MethodOf GoType)) (m : MethodOf GoType) (r : List ℕ) → m.pointer ≡ false → closed (frame.Method before (member_of m.name m.«package»)) m.of (59 ∷ 32 ∷ r) ≡ methods (before ++ m ∷ []) r
unfolding closed
closed_more before m r e = ap (λ n. methods (before ++ n ∷ []) r) (method_is m e)

module _ (table : Table) (s : GoType) (frames : List (FrameOf GoType)) where
  one_method : (before : List (MethodOf GoType)) (m : MethodOf GoType) (r : List ℕ) (t : Turn GoType) → IsPlainMethod m → Comes table s m.of
      → ends r ≡ true → closed (frame.Method before (member_of m.name m.«package»)) m.of r ≡ t → ActsTo table s frames t → ActsTo table s frames (methods before (text_of_method m ++ r))
  one_method before m r t is comes e c h =
      let open_method = frame.Method before (member_of m.name m.«package») in
      let rest = drop 5 (type_text m.of) ++ r in
      subst (ActsTo table s frames) (sym (ap (methods before) (method_parts m r is.1) ∙ at_method before m r is))
      (alike table s (open_method ∷ frames) (codes "func(" ++ rest) (40 ∷ rest) (opened_function rest ∙ sym (opened_bare rest))
      (subst (λ l. LeadsTo table s (wants (open_method ∷ frames) (l ++ r))) (function_text m.of is.1)
      (comes (open_method ∷ frames) r e (by_closing table s open_method frames m.of r t c h))))

  more_methods : (before : List (MethodOf GoType)) (m : MethodOf GoType) (ms : List (MethodOf GoType)) (r : List ℕ) → Each IsPlainMethod (m ∷ ms) → Each (λ n. Comes table s n.of) (m ∷ ms)
      → ActsTo table s frames (turn (act.Made (t.Interface (before ++ m ∷ ms))) r) → ActsTo table s frames (methods before (text_of_method m ++ behind 59 125 (map text_of_method ms) r))
  more_methods before m [] r is comes h = one_method before m (125 ∷ r) (turn (act.Made (t.Interface (before ++ m ∷ []))) r) is.0 comes.0 refl (closed_last before m r is.0.2) h
  more_methods before m (n ∷ ns) r is comes h =
      let rest = text_of_method n ++ behind 59 125 (map text_of_method ns) r in
      one_method before m (59 ∷ 32 ∷ rest) (methods (before ++ m ∷ []) rest) is.0 comes.0 refl (closed_more before m rest is.0.2)
      (more_methods (before ++ m ∷ []) n ns r is.1 comes.1 (subst (λ l. ActsTo table s frames (turn (act.Made (t.Interface l)) r)) (sym (append_assoc before (m ∷ []) (n ∷ ns))) h))

  pub methods_lead : (ms : List (MethodOf GoType)) (r : List ℕ) → Each IsPlainMethod ms → Each (λ n. Comes table s n.of) ms → ActsTo table s frames (turn (act.Made (t.Interface ms)) r)
      → ActsTo table s frames (methods [] (joined (codes "; ") (map text_of_method ms) ++ (125 ∷ r)))
  methods_lead [] r is comes h = h
  methods_lead (m ∷ ms) r is comes h =
      subst (λ l. ActsTo table s frames (methods [] l)) (sym (joined_behind 59 125 (text_of_method m) (map text_of_method ms) r)) (more_methods [] m ms r is comes h)
