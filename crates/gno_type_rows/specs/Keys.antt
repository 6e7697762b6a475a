-- What a term is looked up by.
use Rattle.std.specs.Prelude.{ℕ, List, [], ◌∷◌, ◌++◌, length, Bool, true, false}
use Rattle.std.specs.declared.cmp.Ordering.{Ordering}
use Rattle.std.specs.Ordering.{nat_cmp, on, then_cmp}
use Rattle.std.specs.Cmp.Lexicographic.{slice_cmp}
use Rattle.gno_base.specs.declared.kind.Kind.{Kind}
use Rattle.gno_base.specs.declared.kind.Kind.TheVariants as k
use Rattle.gno_terms.specs.declared.term.TypeRef.{TypeRef}
use Rattle.gno_terms.specs.declared.term.TermOf.{TermOf}
use Rattle.gno_terms.specs.declared.term.TermOf.TheVariants as t
use Rattle.gno_terms.specs.declared.term.FieldOf.{FieldOf}
use Rattle.gno_terms.specs.declared.term.MethodOf.{MethodOf}
use Rattle.gno_type_rows.specs.declared.key.Key.{Key}

abbrev pub by_key : Key → Key → Ordering
by_key = then_cmp (on (λ k. k.form) nat_cmp) (then_cmp (on (λ k. k.numbers) (slice_cmp nat_cmp)) (on (λ k. k.texts) (slice_cmp (slice_cmp nat_cmp))))

abbrev pub form_of : TermOf TypeRef → ℕ
form_of (t.Basic kind) = 0
form_of t.UntypedBool = 1
form_of t.UntypedWhole = 2
form_of t.UntypedRune = 3
form_of t.UntypedText = 4
form_of t.UntypedNil = 5
form_of t.Error = 6
form_of t.Realm = 7
form_of (t.Defined path name local) = 8
form_of (t.Pointer a) = 9
form_of (t.Slice a) = 10
form_of (t.Array n a) = 11
form_of (t.Map a b) = 12
form_of (t.Function ps variadic rs) = 13
form_of (t.Struct fs) = 14
form_of (t.Interface ms) = 15

abbrev pub kind_number : Kind → ℕ
kind_number k.Bool = 0
kind_number k.Text = 1
kind_number k.Int = 2
kind_number k.Int8 = 3
kind_number k.Int16 = 4
kind_number k.Int32 = 5
kind_number k.Int64 = 6
kind_number k.Uint = 7
kind_number k.Uint8 = 8
kind_number k.Uint16 = 9
kind_number k.Uint32 = 10
kind_number k.Uint64 = 11

abbrev pub flag : Bool → ℕ
flag false = 0
flag true = 1

abbrev pub refs : List TypeRef → List ℕ
refs [] = []
refs (r ∷ rs) = r.0 ∷ refs rs

abbrev pub field_numbers : List (FieldOf TypeRef) → List ℕ
field_numbers [] = []
field_numbers (f ∷ fs) = flag f.embedded ∷ f.of.0 ∷ field_numbers fs

abbrev pub method_numbers : List (MethodOf TypeRef) → List ℕ
method_numbers [] = []
method_numbers (m ∷ ms) = flag m.pointer ∷ m.of.0 ∷ method_numbers ms

abbrev pub numbers_of : TermOf TypeRef → List ℕ
numbers_of (t.Basic kind) = kind_number kind ∷ []
numbers_of (t.Defined path name local) = local ∷ []
numbers_of (t.Pointer a) = a.0 ∷ []
numbers_of (t.Slice a) = a.0 ∷ []
numbers_of (t.Array n a) = n ∷ a.0 ∷ []
numbers_of (t.Map a b) = a.0 ∷ b.0 ∷ []
numbers_of (t.Function ps variadic rs) = flag variadic ∷ length ps ∷ (refs ps ++ refs rs)
numbers_of (t.Struct fs) = field_numbers fs
numbers_of (t.Interface ms) = method_numbers ms
numbers_of _ = []

abbrev pub field_texts : List (FieldOf TypeRef) → List (List ℕ)
field_texts [] = []
field_texts (f ∷ fs) = f.name ∷ f.«package» ∷ field_texts fs

abbrev pub method_texts : List (MethodOf TypeRef) → List (List ℕ)
method_texts [] = []
method_texts (m ∷ ms) = m.name ∷ m.«package» ∷ method_texts ms

abbrev pub texts_of : TermOf TypeRef → List (List ℕ)
texts_of (t.Defined path name local) = path ∷ name ∷ []
texts_of (t.Struct fs) = field_texts fs
texts_of (t.Interface ms) = method_texts ms
texts_of _ = []

abbrev pub key_of : TermOf TypeRef → Key
key_of x = record { form = form_of x; numbers = numbers_of x; texts = texts_of x }
