-- The form of a term, the first word of its text, and what stands behind it.
use Rattle.std.proofs.Common.{◌≡◌, refl, ℕ, Bool, List, [], ◌++◌, map, codes}
use Rattle.std.specs.Prelude.{⊤}
use Rattle.gno_base.specs.declared.kind.Kind.{Kind}
use Rattle.gno_terms.specs.declared.term.GoType.{GoType}
use Rattle.gno_terms.specs.declared.term.TermOf.{TermOf}
use Rattle.gno_terms.specs.declared.term.TermOf.TheVariants as t
use Rattle.gno_terms.specs.declared.term.FieldOf.{FieldOf}
use Rattle.gno_terms.specs.declared.term.MethodOf.{MethodOf}
use Rattle.gno_terms.specs.Terms.{term_with}
use Rattle.gno_terms.specs.Texts.{kind_text, member_text, local_text, joined, params_text, results_text, field_text, method_text, term_text, type_text}

pub data Shape : Type 0 where
  basic : Kind → Shape
  untyped error realm defined pointer slice array table function struct interface : Shape

abbrev pub shape : {A : Type 0} → TermOf A → Shape
shape (t.Basic kind) = basic kind
shape t.Error = error
shape t.Realm = realm
shape (t.Defined path name local) = defined
shape (t.Pointer a) = pointer
shape (t.Slice a) = slice
shape (t.Array n a) = array
shape (t.Map a b) = table
shape (t.Function ps variadic rs) = function
shape (t.Struct fs) = struct
shape (t.Interface ms) = interface
shape _ = untyped

-- what a term of the shape is
abbrev pub Formed : {A : Type 0} → Shape → TermOf A → Type 0
Formed {A} (basic kind) y = y ≡ t.Basic kind
Formed {A} untyped y = ⊤
Formed {A} error y = y ≡ t.Error
Formed {A} realm y = y ≡ t.Realm
Formed {A} defined y = (path : List ℕ) × (name : List ℕ) × (local : ℕ) × (y ≡ t.Defined path name local)
Formed {A} pointer y = (a : A) × (y ≡ t.Pointer a)
Formed {A} slice y = (a : A) × (y ≡ t.Slice a)
Formed {A} array y = (n : ℕ) × (a : A) × (y ≡ t.Array n a)
Formed {A} table y = (a : A) × (b : A) × (y ≡ t.Map a b)
Formed {A} function y = (ps : List A) × (variadic : Bool) × (rs : List A) × (y ≡ t.Function ps variadic rs)
Formed {A} struct y = (fs : List (FieldOf A)) × (y ≡ t.Struct fs)
Formed {A} interface y = (ms : List (MethodOf A)) × (y ≡ t.Interface ms)

pub formed : {A : Type 0} (y : TermOf A) → Formed (shape y) y
formed (t.Basic kind) = refl
formed t.UntypedBool = tt
formed t.UntypedWhole = tt
formed t.UntypedRune = tt
formed t.UntypedText = tt
formed t.UntypedNil = tt
formed t.Error = refl
formed t.Realm = refl
formed (t.Defined path name local) = (path, name, local, refl)
formed (t.Pointer a) = (a, refl)
formed (t.Slice a) = (a, refl)
formed (t.Array n a) = (n, a, refl)
formed (t.Map a b) = (a, b, refl)
formed (t.Function ps variadic rs) = (ps, variadic, rs, refl)
formed (t.Struct fs) = (fs, refl)
formed (t.Interface ms) = (ms, refl)

-- the first word of a term's text
abbrev pub word_of : TermOf (List ℕ) → List ℕ
word_of (t.Basic kind) = kind_text kind
word_of t.Error = codes "error"
word_of t.Realm = codes "realm"
word_of (t.Defined path name local) = member_text name path ++ local_text local
word_of (t.Map a b) = codes "map"
word_of (t.Function ps variadic rs) = codes "func"
word_of (t.Struct fs) = codes "struct"
word_of (t.Interface ms) = codes "interface"
word_of _ = []

-- what stands behind it
abbrev pub rest_of : TermOf (List ℕ) → List ℕ
rest_of (t.Pointer a) = codes "*" ++ a
rest_of (t.Slice a) = codes "[]" ++ a
rest_of (t.Array n a) = term_text (t.Array n a)
rest_of (t.Map a b) = codes "[" ++ (a ++ (codes "]" ++ b))
rest_of (t.Function ps variadic rs) = params_text variadic ps ++ results_text rs
rest_of (t.Struct fs) = codes "{" ++ (joined (codes "; ") (map field_text fs) ++ codes "}")
rest_of (t.Interface ms) = codes "{" ++ (joined (codes "; ") (map method_text ms) ++ codes "}")
rest_of _ = []

pub parted : (x : TermOf (List ℕ)) (r : List ℕ) → term_text x ++ r ≡ word_of x ++ (rest_of x ++ r)
parted (t.Basic kind) r = refl
parted _ r = refl

-- over the texts of its parts
abbrev pub texts : TermOf GoType → TermOf (List ℕ)
texts x = term_with type_text x
