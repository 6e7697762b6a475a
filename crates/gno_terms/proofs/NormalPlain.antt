-- The normal form of a lawful type that is not untyped is plain.
use Rattle.std.proofs.Common.{◌≡◌, refl, ap, sym, subst, ◌∙◌, true≢false, ℕ, Bool, true, false, cond, List, [], ◌∷◌, map, inl, inr}
use Rattle.std.specs.Ordering.{is_gt}
use Rattle.gno_terms.specs.declared.term.GoType.{GoType}
use Rattle.gno_terms.specs.declared.term.TermOf.{TermOf}
use Rattle.gno_terms.specs.declared.term.TermOf.TheVariants as t
use Rattle.gno_terms.specs.declared.term.FieldOf.{FieldOf}
use Rattle.gno_terms.specs.declared.term.MethodOf.{MethodOf}
use Rattle.gno_terms.specs.Exported.{is_exported}
use Rattle.gno_terms.specs.Terms.{term_of, term_with, field_with, method_with, field_of, method_of, parts}
use Rattle.gno_terms.specs.Normal.{normal, normal_term, normal_field, normal_method, package_of, by_name, placed, in_byte_order}
use Rattle.gno_terms.specs.Lawful.{IsPath, IsTyped, IsOwned, IsLawful, IsLawfulField, IsLawfulMethod, Each, LawfulType, LawfulTypes, lawful, none, more, is_slice, is_function, is_untyped}
use Rattle.gno_terms.proofs.Layers.{term_of-type_of, type_of-term_of, normal-at}
use Rattle.gno_terms.proofs.Each.{each-append, each_parts, each-map}
use Rattle.gno_terms.proofs.Members.{IsPackage}
use Rattle.gno_terms.proofs.Plain.{IsPlain, IsPlainField, IsPlainMethod, EndsInSlice, Plain, made}

each_placed : (P : MethodOf GoType → Type 0) (m : MethodOf GoType) (ns : List (MethodOf GoType)) → P m → Each P ns → Each P (placed m ns)
each_placed P m [] h p = (h, tt)
each_placed P m (n ∷ ns) h p = at (is_gt (by_name m n)) (each_placed P m ns h p.1)
  where
    at : (b : Bool) → Each P (placed m ns) → Each P (cond b (n ∷ placed m ns) (m ∷ n ∷ ns))
    at true e = (p.0, e)
    at false e = (h, p)

each_ordered : (P : MethodOf GoType → Type 0) (ms : List (MethodOf GoType)) → Each P ms → Each P (in_byte_order ms)
each_ordered P [] p = tt
each_ordered P (m ∷ ms) p = each_placed P m (in_byte_order ms) p.0 (each_ordered P ms p.1)

-- the package of a name that is exported falls away
package_kept : (name path : List ℕ) → IsOwned name path → IsPackage (package_of name path)
package_kept name path owned = at (is_exported name) owned
  where
    at : (b : Bool) → (b ≡ false → IsPath path) → IsPackage (cond b [] path)
    at true o = inl refl
    at false o = inr (o refl)

-- the form of a normal type is that of the type
normal_of : (s : GoType) → term_of (normal s) ≡ normal_term (term_with normal (term_of s))
normal_of s = ap (λ u. term_of (normal u)) (sym (type_of-term_of s)) ∙ ap term_of (normal-at (term_of s)) ∙ term_of-type_of (normal_term (term_with normal (term_of s)))

slice_form : (x : TermOf GoType) → is_slice x ≡ true → is_slice (normal_term (term_with normal x)) ≡ true
slice_form (t.Slice a) e = refl
slice_form _ e = e

function_form : (x : TermOf GoType) → is_function x ≡ true → is_function (normal_term (term_with normal x)) ≡ true
function_form (t.Function ps variadic rs) e = refl
function_form _ e = e

function_typed : (x : TermOf GoType) → is_function x ≡ true → is_untyped x ≡ false
function_typed (t.Function ps variadic rs) e = refl
function_typed _ e = absurd (true≢false (sym e))

still_slice : (s : GoType) → is_slice (term_of s) ≡ true → is_slice (term_of (normal s)) ≡ true
still_slice s e = ap is_slice (normal_of s) ∙ slice_form (term_of s) e

still_function : (s : GoType) → is_function (term_of s) ≡ true → is_function (term_of (normal s)) ≡ true
still_function s e = ap is_function (normal_of s) ∙ function_form (term_of s) e

last_slice : (ps : List GoType) → EndsInSlice ps → EndsInSlice (map normal ps)
last_slice [] e = e
last_slice (p ∷ []) e = still_slice p e
last_slice (p ∷ q ∷ ps) e = last_slice (q ∷ ps) e

field_plain : (f : FieldOf GoType) → IsLawfulField f → IsPlainField (normal_field (field_with normal f))
field_plain f h = (h.name, package_kept f.name f.«package» h.owned)

method_plain : (m : MethodOf GoType) → IsLawfulMethod m → IsPlainMethod (normal_method (method_with normal m))
method_plain m h = ((h.name, package_kept m.name m.«package» h.owned), still_function m.of h.function, h.no_pointer)

fields_plain : (fs : List (FieldOf GoType)) → Each IsLawfulField fs → Each IsPlainField (map normal_field (map (field_with normal) fs))
fields_plain [] h = tt
fields_plain (f ∷ fs) h = (field_plain f h.0, fields_plain fs h.1)

methods_plain : (ms : List (MethodOf GoType)) → Each IsLawfulMethod ms → Each IsPlainMethod (map normal_method (map (method_with normal) ms))
methods_plain [] h = tt
methods_plain (m ∷ ms) h = (method_plain m h.0, methods_plain ms h.1)

term_plain : (x : TermOf GoType) → IsLawful x → is_untyped x ≡ false → IsPlain (normal_term (term_with normal x))
term_plain (t.Basic kind) h e = tt
term_plain t.UntypedBool h e = true≢false e
term_plain t.UntypedWhole h e = true≢false e
term_plain t.UntypedRune h e = true≢false e
term_plain t.UntypedText h e = true≢false e
term_plain t.UntypedNil h e = true≢false e
term_plain t.Error h e = tt
term_plain t.Realm h e = tt
term_plain (t.Defined path name local) h e = h
term_plain (t.Pointer a) h e = tt
term_plain (t.Slice a) h e = tt
term_plain (t.Array n a) h e = h.0
term_plain (t.Map a b) h e = tt
term_plain (t.Function ps variadic rs) h e = λ v. last_slice ps (h.last v)
term_plain (t.Struct fs) h e = fields_plain fs h
term_plain (t.Interface ms) h e = each_ordered IsPlainMethod (map normal_method (map (method_with normal) ms)) (methods_plain ms h)

typed_parts : (x : TermOf GoType) → IsLawful x → Each IsTyped (parts x)
typed_parts (t.Pointer a) h = (h, tt)
typed_parts (t.Slice a) h = (h, tt)
typed_parts (t.Array n a) h = (h.1, tt)
typed_parts (t.Map a b) h = (h.0, (h.1, tt))
typed_parts (t.Function ps variadic rs) h = each-append IsTyped ps rs h.params h.results
typed_parts (t.Struct fs) h = each-map IsLawfulField IsTyped field_of (λ f l. l.typed) fs h
typed_parts (t.Interface ms) h = each-map IsLawfulMethod IsTyped method_of (λ m l. function_typed (term_of m.of) l.function) ms h
typed_parts _ h = tt

abbrev NormalPlain : GoType → Type 0
NormalPlain s = Plain (normal s)

fields_parts : (fs : List (FieldOf GoType)) → Each NormalPlain (map field_of fs) → Each Plain (map field_of (map normal_field (map (field_with normal) fs)))
fields_parts [] p = tt
fields_parts (f ∷ fs) p = (p.0, fields_parts fs p.1)

methods_parts : (ms : List (MethodOf GoType)) → Each NormalPlain (map method_of ms) → Each (λ m. Plain m.of) (map normal_method (map (method_with normal) ms))
methods_parts [] p = tt
methods_parts (m ∷ ms) p = (p.0, methods_parts ms p.1)

-- the parts of the normal form, in the order of that
normal_parts : (x : TermOf GoType) → Each NormalPlain (parts x) → Each Plain (parts (normal_term (term_with normal x)))
normal_parts (t.Pointer a) p = p
normal_parts (t.Slice a) p = p
normal_parts (t.Array n a) p = p
normal_parts (t.Map a b) p = p
normal_parts (t.Function ps variadic rs) p =
    let t = each_parts NormalPlain ps rs p in
    each-append Plain (map normal ps) (map normal rs) (each-map NormalPlain Plain normal (λ a h. h) ps t.0) (each-map NormalPlain Plain normal (λ a h. h) rs t.1)
normal_parts (t.Struct fs) p = fields_parts fs p
normal_parts (t.Interface ms) p =
    let normals = map normal_method (map (method_with normal) ms) in
    each-map (λ m. Plain m.of) Plain method_of (λ m h. h) (in_byte_order normals) (each_ordered (λ m. Plain m.of) normals (methods_parts ms p))
normal_parts _ p = tt

mutual
  pub normal_plain : {s : GoType} → LawfulType s → IsTyped s → Plain (normal s)
  normal_plain {s} (lawful h ps) typed =
      let e = ap normal (sym (type_of-term_of s)) ∙ normal-at (term_of s) in
      subst Plain (sym e) (made (normal_term (term_with normal (term_of s))) (term_plain (term_of s) h typed) (normal_parts (term_of s) (all_normal ps (typed_parts (term_of s) h))))

  all_normal : {ss : List GoType} → LawfulTypes ss → Each IsTyped ss → Each NormalPlain ss
  all_normal none typed = tt
  all_normal (more h hs) typed = (normal_plain h typed.0, all_normal hs typed.1)
