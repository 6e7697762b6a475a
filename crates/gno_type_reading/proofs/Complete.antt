-- The text of a type leads to the type.
use Rattle.std.proofs.Common.{◌≡◌, refl, ap, sym, subst, ◌∙◌, ℕ, true, List, [], ◌∷◌, ◌++◌, append_assoc, append-nil, codes, map}
use Rattle.std.specs.Fmt.{decimal}
use Rattle.std.proofs.lemmas.Simd.{map-map}
use Rattle.gno_terms.specs.declared.term.GoType.{GoType}
use Rattle.gno_terms.specs.declared.term.TermOf.{TermOf}
use Rattle.gno_terms.specs.declared.term.TermOf.TheVariants as t
use Rattle.gno_terms.specs.Lawful.{Each}
use Rattle.gno_terms.specs.Normal.{normal}
use Rattle.gno_terms.specs.Tables.{Table}
use Rattle.gno_terms.specs.Terms.{term_of, type_of, parts, field_of, field_with, method_of, method_with}
use Rattle.gno_terms.specs.Texts.{joined, field_text, method_text, results_text, term_text, type_text}
use Rattle.gno_terms.proofs.Layers.{type_of-term_of}
use Rattle.gno_terms.proofs.Each.{each_parts, each_of-map}
use Rattle.gno_terms.proofs.Joined.{ends}
use Rattle.gno_terms.proofs.Openings.{text_of}
use Rattle.gno_terms.proofs.Plain.{IsPlain, Plain, Plains, plain, no_plain, one_more, each_plain}
use Rattle.gno_terms.proofs.Shapes.{texts}
use Rattle.gno_terms.proofs.Fields.{text_of_field, text_of_method}
use Rattle.gno_type_reading.specs.declared.frame.FrameOf.{FrameOf}
use Rattle.gno_type_reading.specs.declared.frame.FrameOf.TheVariants as frame
use Rattle.gno_type_reading.specs.declared.frame.ActionOf.TheVariants as act
use Rattle.gno_type_reading.specs.Known.{MayStand}
use Rattle.gno_type_reading.specs.TypeTexts.{IsTypeText}
use Rattle.gno_type_reading.specs.Turns.{turn, opened, closed, fields, methods, params}
use Rattle.gno_type_reading.proofs.Leads.{LeadsTo, wants, has, by_opening, by_closing, makes}
use Rattle.gno_type_reading.proofs.Fine.{Fine, AllFine, fine, nothing, and, fine_text}
use Rattle.gno_type_reading.proofs.Comes.{Comes}
use Rattle.gno_type_reading.proofs.Opened.{opened_kind, opened_error, opened_realm, opened_defined, opened_pointer, opened_slice, opened_array, opened_map, opened_function, opened_struct, opened_interface}
use Rattle.gno_type_reading.proofs.ParamLists.{texts_of, params_lead, results_lead}
use Rattle.gno_type_reading.proofs.FieldLists.{fields_lead}
use Rattle.gno_type_reading.proofs.MethodLists.{methods_lead}

closed_pointer : (a : GoType) (r : List ℕ) → closed frame.Pointer a r ≡ turn (act.Made (t.Pointer a)) r
unfolding closed
closed_pointer a r = refl

closed_slice : (a : GoType) (r : List ℕ) → closed frame.Slice a r ≡ turn (act.Made (t.Slice a)) r
unfolding closed
closed_slice a r = refl

closed_array : (n : ℕ) (a : GoType) (r : List ℕ) → closed (frame.Array n) a r ≡ turn (act.Made (t.Array n a)) r
unfolding closed
closed_array n a r = refl

closed_key : (a : GoType) (r : List ℕ) → closed frame.Key a (93 ∷ r) ≡ turn (act.Opened (frame.Value a)) r
unfolding closed
closed_key a r = refl

closed_value : (a b : GoType) (r : List ℕ) → closed (frame.Value a) b r ≡ turn (act.Made (t.Map a b)) r
unfolding closed
closed_value a b r = refl

-- what stands in and behind parentheses
opened_text : (front back r : List ℕ) → ((front ++ codes ")") ++ back) ++ r ≡ front ++ (41 ∷ (back ++ r))
opened_text front back r = ap (λ l. l ++ r) (append_assoc front (codes ")") back) ∙ append_assoc front (41 ∷ back) r

-- what stands in braces
braced : (xs ys : List (List ℕ)) (r : List ℕ) → xs ≡ ys → (joined (codes "; ") xs ++ codes "}") ++ r ≡ joined (codes "; ") ys ++ (125 ∷ r)
braced xs ys r e = append_assoc (joined (codes "; ") xs) (codes "}") r ∙ ap (λ l. joined (codes "; ") l ++ (125 ∷ r)) e

module _ (table : Table) (s : GoType) where
  -- the text of a term whose parts' texts lead to the parts
  term_comes : (x : TermOf GoType) → MayStand table x → IsPlain x → Each Plain (parts x) → Each (Comes table s) (parts x) → (p : GoType) → normal (type_of x) ≡ p
      → (frames : List (FrameOf GoType)) (r : List ℕ) → ends r ≡ true → LeadsTo table s (has frames p r) → LeadsTo table s (wants frames (term_text (texts x) ++ r))
  term_comes (t.Basic kind) okay is own comes p n frames r e h = by_opening table s frames _ (turn (act.Made (t.Basic kind)) r) (opened_kind kind r e) (makes table s (t.Basic kind) p frames r okay n h)
  term_comes t.UntypedBool okay is own comes p n frames r e h = absurd is
  term_comes t.UntypedWhole okay is own comes p n frames r e h = absurd is
  term_comes t.UntypedRune okay is own comes p n frames r e h = absurd is
  term_comes t.UntypedText okay is own comes p n frames r e h = absurd is
  term_comes t.UntypedNil okay is own comes p n frames r e h = absurd is
  term_comes t.Error okay is own comes p n frames r e h = by_opening table s frames _ (turn (act.Made t.Error) r) (opened_error r e) (makes table s t.Error p frames r okay n h)
  term_comes t.Realm okay is own comes p n frames r e h = by_opening table s frames _ (turn (act.Made t.Realm) r) (opened_realm r e) (makes table s t.Realm p frames r okay n h)
  term_comes (t.Defined path name local) okay is own comes p n frames r e h =
      by_opening table s frames _ (turn (act.Made (t.Defined path name local)) r) (opened_defined path name local r is.0 is.1 is.2 e) (makes table s (t.Defined path name local) p frames r okay n h)
  term_comes (t.Pointer a) okay is own comes p n frames r e h =
      by_opening table s frames _ (turn (act.Opened frame.Pointer) (type_text a ++ r)) (opened_pointer (type_text a ++ r))
      (comes.0 (frame.Pointer ∷ frames) r e (by_closing table s frame.Pointer frames a r (turn (act.Made (t.Pointer a)) r) (closed_pointer a r) (makes table s (t.Pointer a) p frames r okay n h)))
  term_comes (t.Slice a) okay is own comes p n frames r e h =
      by_opening table s frames _ (turn (act.Opened frame.Slice) (type_text a ++ r)) (opened_slice (type_text a ++ r))
      (comes.0 (frame.Slice ∷ frames) r e (by_closing table s frame.Slice frames a r (turn (act.Made (t.Slice a)) r) (closed_slice a r) (makes table s (t.Slice a) p frames r okay n h)))
  term_comes (t.Array m a) okay is own comes p n frames r e h =
      by_opening table s frames _ (turn (act.Opened (frame.Array m)) (type_text a ++ r)) (ap (λ l. opened {A = GoType} (91 ∷ l)) (append_assoc (decimal m) (93 ∷ type_text a) r) ∙ opened_array m (type_text a ++ r) is)
      (comes.0 (frame.Array m ∷ frames) r e (by_closing table s (frame.Array m) frames a r (turn (act.Made (t.Array m a)) r) (closed_array m a r) (makes table s (t.Array m a) p frames r okay n h)))
  term_comes (t.Map a b) okay is own comes p n frames r e h =
      subst (λ l. LeadsTo table s (wants frames (codes "map[" ++ l))) (sym (append_assoc (type_text a) (93 ∷ type_text b) r))
      (by_opening table s frames _ (turn (act.Opened frame.Key) (type_text a ++ (93 ∷ (type_text b ++ r)))) (opened_map (type_text a ++ (93 ∷ (type_text b ++ r))))
      (comes.0 (frame.Key ∷ frames) (93 ∷ (type_text b ++ r)) refl (by_closing table s frame.Key frames a (93 ∷ (type_text b ++ r)) (turn (act.Opened (frame.Value a)) (type_text b ++ r)) (closed_key a (type_text b ++ r))
      (comes.1.0 (frame.Value a ∷ frames) r e (by_closing table s (frame.Value a) frames b r (turn (act.Made (t.Map a b)) r) (closed_value a b r) (makes table s (t.Map a b) p frames r okay n h))))))
  term_comes (t.Function ps v rs) okay is own comes p n frames r e h =
      let each_plain = each_parts Plain ps rs own in
      let each_comes = each_parts (Comes table s) ps rs comes in
      let inner = joined (codes ", ") (texts_of v ps) in
      let back = results_text (map type_text rs) in
      by_opening table s frames _ (params [] (inner ++ (41 ∷ (back ++ r)))) (ap (λ l. opened {A = GoType} (codes "func(" ++ l)) (opened_text inner back r) ∙ opened_function (inner ++ (41 ∷ (back ++ r))))
      (params_lead table s frames v ps (back ++ r) each_plain.0 is each_comes.0 (results_lead table s frames ps v rs r each_plain.1 each_comes.1 e (makes table s (t.Function ps v rs) p frames r okay n h)))
  term_comes (t.Struct fs) okay is own comes p n frames r e h =
      let text = joined (codes "; ") (map text_of_field fs) ++ (125 ∷ r) in
      by_opening table s frames _ (fields [] text) (ap (λ l. opened {A = GoType} (codes "struct{" ++ l)) (braced _ (map text_of_field fs) r (map-map field_text (field_with type_text) fs)) ∙ opened_struct text)
      (fields_lead table s frames fs r is (each_of-map (λ f. Comes table s f.of) (Comes table s) field_of (λ f l. l) fs comes) (makes table s (t.Struct fs) p frames r okay n h))
  term_comes (t.Interface ms) okay is own comes p n frames r e h =
      let text = joined (codes "; ") (map text_of_method ms) ++ (125 ∷ r) in
      by_opening table s frames _ (methods [] text) (ap (λ l. opened {A = GoType} (codes "interface{" ++ l)) (braced _ (map text_of_method ms) r (map-map method_text (method_with type_text) ms)) ∙ opened_interface text)
      (methods_lead table s frames ms r is (each_of-map (λ m. Comes table s m.of) (Comes table s) method_of (λ m l. l) ms comes) (makes table s (t.Interface ms) p frames r okay n h))

  mutual
    plain_of : {p : GoType} → Fine table p → Plain p
    plain_of (fine okay is e ps) = plain is (plains_of ps)

    plains_of : {ps : List GoType} → AllFine table ps → Plains ps
    plains_of nothing = no_plain
    plains_of (and p ps) = one_more (plain_of p) (plains_of ps)

  mutual
    comes : {p : GoType} → Fine table p → Comes table s p
    comes {p} (fine okay is e ps) = λ frames r end h.
        subst (λ l. LeadsTo table s (wants frames (l ++ r))) (sym (text_of p))
        (term_comes (term_of p) okay is (each_plain (plains_of ps)) (all_come ps) p (ap normal (type_of-term_of p) ∙ e) frames r end h)

    all_come : {ps : List GoType} → AllFine table ps → Each (Comes table s) ps
    all_come nothing = tt
    all_come (and p ps) = (comes p, all_come ps)

-- a text leads to each type that has it
pub leads : (table : Table) (text : List ℕ) (s : GoType) → IsTypeText table text s → LeadsTo table s (wants [] text)
leads table text s is =
    subst (λ l. LeadsTo table s (wants [] l)) (append-nil (type_text s) ∙ is.is)
    (comes table s (fine_text table text s is) [] [] refl (1, refl))
