-- The texts of fields lead to the struct.
use Rattle.std.proofs.Common.{◌≡◌, refl, ap, ap₂, sym, subst, ◌∙◌, ℕ, Bool, true, false, cond, List, [], ◌∷◌, ◌++◌, append_assoc, codes, map, drop}
use Rattle.gno_terms.specs.declared.term.GoType.{GoType}
use Rattle.gno_terms.specs.declared.term.TermOf.TheVariants as t
use Rattle.gno_terms.specs.declared.term.FieldOf.{FieldOf}
use Rattle.gno_terms.specs.Lawful.{Each}
use Rattle.gno_terms.specs.Tables.{Table}
use Rattle.gno_terms.specs.Texts.{joined, member_text, type_text}
use Rattle.gno_terms.proofs.Words.{weaken, stops, begins-append}
use Rattle.gno_terms.proofs.Bytes.{in_member, member-word}
use Rattle.gno_terms.proofs.Members.{all_member, member_begins}
use Rattle.gno_terms.proofs.Plain.{IsMember, IsPlainField}
use Rattle.gno_terms.proofs.Joined.{ends}
use Rattle.gno_terms.proofs.Fields.{text_of_field}
use Rattle.gno_type_reading.specs.declared.frame.FrameOf.{FrameOf}
use Rattle.gno_type_reading.specs.declared.frame.FrameOf.TheVariants as frame
use Rattle.gno_type_reading.specs.declared.frame.ActionOf.TheVariants as act
use Rattle.gno_type_reading.specs.Turns.{Turn, turn, closed, field, fields, member, word_at, behind_word, begins_with, in_word}
use Rattle.gno_type_reading.proofs.Leads.{ActsTo, by_closing}
use Rattle.gno_type_reading.proofs.Separated.{behind, joined_behind}
use Rattle.gno_type_reading.proofs.Comes.{Comes}
use Rattle.gno_type_reading.proofs.Cuts.{member_is, member_of}
use Rattle.gno_type_reading.proofs.Opened.{begins_other}
use Rattle.gno_type_reading.proofs.FrontWords.{front_word, behind_front}

-- a member's text at the front
pub front_member : (name path r : List ℕ) → IsMember name path → stops in_word r ≡ true → member (word_at (member_text name path ++ r)) ≡ member_of name path
front_member name path r is e = ap member (front_word (member_text name path) r (weaken in_member in_word member-word (member_text name path) (all_member name path is.0 is.1)) e) ∙ member_is name path is.0

pub behind_member : (name path r : List ℕ) → IsMember name path → stops in_word r ≡ true → behind_word (member_text name path ++ r) ≡ r
behind_member name path r is e = behind_front (member_text name path) r (weaken in_member in_word member-word (member_text name path) (all_member name path is.0 is.1)) e

pub member_not : (c : ℕ) → in_member c ≡ false → (name path r : List ℕ) → IsMember name path → begins_with c (member_text name path ++ r) ≡ false
member_not c f name path r is = begins_other in_member c (member_text name path ++ r) (begins-append in_member (member_text name path) r (member_begins name path is.0 is.1)) f

abbrev named : FieldOf GoType → List ℕ → List ℕ
named x r = member_text x.name x.«package» ++ (32 ∷ (type_text x.of ++ r))

abbrev marked : Bool → List ℕ → List ℕ
marked embedded r = cond embedded (33 ∷ r) r

field_parts : (x : FieldOf GoType) (r : List ℕ) → text_of_field x ++ r ≡ marked x.embedded (named x r)
field_parts x r = at x.embedded
  where
    at : (b : Bool) → ((cond b (codes "!") []) ++ (member_text x.name x.«package» ++ (codes " " ++ type_text x.of))) ++ r ≡ marked b (named x r)
    at true = ap (λ l. 33 ∷ l) (append_assoc (member_text x.name x.«package») (codes " " ++ type_text x.of) r)
    at false = append_assoc (member_text x.name x.«package») (codes " " ++ type_text x.of) r

field_is : (before : List (FieldOf GoType)) (b : Bool) (x : FieldOf GoType) (r : List ℕ) → IsPlainField x → field before b (named x r) ≡ turn (act.Opened (frame.Field before (member_of x.name x.«package») b)) (type_text x.of ++ r)
field_is before b x r is =
    ap₂ (λ m l. turn (act.Opened (frame.Field before m b)) (drop 1 l))
    (front_member x.name x.«package» (32 ∷ (type_text x.of ++ r)) is refl) (behind_member x.name x.«package» (32 ∷ (type_text x.of ++ r)) is refl)

at_field : (before : List (FieldOf GoType)) (b : Bool) (x : FieldOf GoType) (r : List ℕ) → IsPlainField x → fields before (marked b (named x r)) ≡ field before b (named x r)
at_field before true x r is = refl
at_field before false x r is =
    ap (λ c. cond c (turn (act.Made (t.Struct before)) (drop 1 (named x r))) (cond (begins_with 33 (named x r)) (field before true (drop 1 (named x r))) (field before false (named x r)))) (member_not 125 refl x.name x.«package» (32 ∷ (type_text x.of ++ r)) is)
    ∙ ap (λ c. cond c (field before true (drop 1 (named x r))) (field before false (named x r))) (member_not 33 refl x.name x.«package» (32 ∷ (type_text x.of ++ r)) is)

closed_last : (before : List (FieldOf GoType)) (x : FieldOf GoType) (r : List ℕ) → closed (frame.Field before (member_of x.name x.«package») x.embedded) x.of (125 ∷ r) ≡ turn (act.Made (t.Struct (before ++ x ∷ []))) r
unfolding closed
closed_last before x r = refl

closed_more : (before : List (FieldOf GoType)) (x : FieldOf GoType) (r : List ℕ) → closed (frame.Field before (member_of x.name x.«package») x.embedded) x.of (59 ∷ 32 ∷ r) ≡ fields (before ++ x ∷ []) r
unfolding closed
closed_more before x r = refl

module _ (table : Table) (s : GoType) (frames : List (FrameOf GoType)) where
  one_field : (before : List (FieldOf GoType)) (x : FieldOf GoType) (r : List ℕ) (t : Turn GoType) → IsPlainField x → Comes table s x.of
      → ends r ≡ true → closed (frame.Field before (member_of x.name x.«package») x.embedded) x.of r ≡ t → ActsTo table s frames t → ActsTo table s frames (fields before (text_of_field x ++ r))
  one_field before x r t is comes e c h =
      let open_field = frame.Field before (member_of x.name x.«package») x.embedded in
      subst (ActsTo table s frames) (sym (ap (fields before) (field_parts x r) ∙ at_field before x.embedded x r is ∙ field_is before x.embedded x r is))
      (comes (open_field ∷ frames) r e (by_closing table s open_field frames x.of r t c h))

  more_fields : (before : List (FieldOf GoType)) (x : FieldOf GoType) (xs : List (FieldOf GoType)) (r : List ℕ) → Each IsPlainField (x ∷ xs) → Each (λ y. Comes table s y.of) (x ∷ xs)
      → ActsTo table s frames (turn (act.Made (t.Struct (before ++ x ∷ xs))) r) → ActsTo table s frames (fields before (text_of_field x ++ behind 59 125 (map text_of_field xs) r))
  more_fields before x [] r is comes h = one_field before x (125 ∷ r) (turn (act.Made (t.Struct (before ++ x ∷ []))) r) is.0 comes.0 refl (closed_last before x r) h
  more_fields before x (y ∷ ys) r is comes h =
      let rest = text_of_field y ++ behind 59 125 (map text_of_field ys) r in
      one_field before x (59 ∷ 32 ∷ rest) (fields (before ++ x ∷ []) rest) is.0 comes.0 refl (closed_more before x rest)
      (more_fields (before ++ x ∷ []) y ys r is.1 comes.1 (subst (λ l. ActsTo table s frames (turn (act.Made (t.Struct l)) r)) (sym (append_assoc before (x ∷ []) (y ∷ ys))) h))

  pub fields_lead : (xs : List (FieldOf GoType)) (r : List ℕ) → Each IsPlainField xs → Each (λ y. Comes table s y.of) xs → ActsTo table s frames (turn (act.Made (t.Struct xs)) r)
      → ActsTo table s frames (fields [] (joined (codes "; ") (map text_of_field xs) ++ (125 ∷ r)))
  fields_lead [] r is comes h = h
  fields_lead (x ∷ xs) r is comes h =
      subst (λ l. ActsTo table s frames (fields [] l)) (sym (joined_behind 59 125 (text_of_field x) (map text_of_field xs) r)) (more_fields [] x xs r is comes h)
