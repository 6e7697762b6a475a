-- Types as terms: what they are made of.
use Rattle.std.specs.Prelude.{List, [], ◌∷◌, ◌++◌, map}
use Rattle.gno_terms.specs.declared.term.GoType.{GoType, out-GoType, roll-GoType}
use Rattle.gno_terms.specs.declared.term.TermOf.{TermOf}
use Rattle.gno_terms.specs.declared.term.TermOf.TheVariants as t
use Rattle.gno_terms.specs.declared.term.FieldOf.{FieldOf}
use Rattle.gno_terms.specs.declared.term.MethodOf.{MethodOf}

-- a type by its parts
abbrev pub term_of : GoType → TermOf GoType
term_of s = (out-GoType s).term

-- the type that has these parts
abbrev pub type_of : TermOf GoType → GoType
type_of x = roll-GoType (record { term = x })

abbrev pub field_with : {A B : Type 0} → (A → B) → FieldOf A → FieldOf B
field_with f x = record { name = x.name; «package» = x.«package»; embedded = x.embedded; of = f x.of }

abbrev pub method_with : {A B : Type 0} → (A → B) → MethodOf A → MethodOf B
method_with f x = record { name = x.name; «package» = x.«package»; of = f x.of; pointer = x.pointer }

-- each part through a function
abbrev pub term_with : {A B : Type 0} → (A → B) → TermOf A → TermOf B
term_with f (t.Basic kind) = t.Basic kind
term_with f t.UntypedBool = t.UntypedBool
term_with f t.UntypedWhole = t.UntypedWhole
term_with f t.UntypedRune = t.UntypedRune
term_with f t.UntypedText = t.UntypedText
term_with f t.UntypedNil = t.UntypedNil
term_with f t.Error = t.Error
term_with f t.Realm = t.Realm
term_with f (t.Defined path name local) = t.Defined path name local
term_with f (t.Pointer a) = t.Pointer (f a)
term_with f (t.Slice a) = t.Slice (f a)
term_with f (t.Array n a) = t.Array n (f a)
term_with f (t.Map a b) = t.Map (f a) (f b)
term_with f (t.Function ps variadic rs) = t.Function (map f ps) variadic (map f rs)
term_with f (t.Struct fs) = t.Struct (map (field_with f) fs)
term_with f (t.Interface ms) = t.Interface (map (method_with f) ms)

abbrev pub field_of : {A : Type 0} → FieldOf A → A
field_of x = x.of

abbrev pub method_of : {A : Type 0} → MethodOf A → A
method_of x = x.of

-- the parts, in order
abbrev pub parts : {A : Type 0} → TermOf A → List A
parts (t.Pointer a) = a ∷ []
parts (t.Slice a) = a ∷ []
parts (t.Array n a) = a ∷ []
parts (t.Map a b) = a ∷ b ∷ []
parts (t.Function ps variadic rs) = ps ++ rs
parts (t.Struct fs) = map field_of fs
parts (t.Interface ms) = map method_of ms
parts _ = []
