-- The text of a type. This project's own.
use Rattle.std.specs.Prelude.{ℕ, List, [], ◌∷◌, ◌++◌, map, drop, codes, Bool, if◌then◌else◌, ◌==◌}
use Rattle.std.specs.Fmt.{decimal}
use Rattle.gno_base.specs.declared.kind.Kind.{Kind}
use Rattle.gno_base.specs.declared.kind.Kind.TheVariants as k
use Rattle.gno_terms.specs.declared.term.GoType.{GoType, fold-GoType}
use Rattle.gno_terms.specs.declared.term.TermOf.{TermOf}
use Rattle.gno_terms.specs.declared.term.TermOf.TheVariants as t
use Rattle.gno_terms.specs.declared.term.FieldOf.{FieldOf}
use Rattle.gno_terms.specs.declared.term.MethodOf.{MethodOf}

abbrev pub kind_text : Kind → List ℕ
kind_text k.Bool = codes "bool"
kind_text k.Text = codes "string"
kind_text k.Int = codes "int"
kind_text k.Int8 = codes "int8"
kind_text k.Int16 = codes "int16"
kind_text k.Int32 = codes "int32"
kind_text k.Int64 = codes "int64"
kind_text k.Uint = codes "uint"
kind_text k.Uint8 = codes "uint8"
kind_text k.Uint16 = codes "uint16"
kind_text k.Uint32 = codes "uint32"
kind_text k.Uint64 = codes "uint64"

-- texts with a separator between
abbrev pub joined : List ℕ → List (List ℕ) → List ℕ
joined separator [] = []
joined separator (text ∷ []) = text
joined separator (text ∷ more ∷ texts) = text ++ (separator ++ joined separator (more ∷ texts))

-- PATH.NAME of what belongs to a package
abbrev pub member_text : List ℕ → List ℕ → List ℕ
member_text name [] = name
member_text name (b ∷ path) = (b ∷ path) ++ (codes "." ++ name)

abbrev pub local_text : ℕ → List ℕ
local_text local = if local == 0 then [] else codes "#" ++ decimal local

-- a variadic function's last parameter, which is a slice, as `...T`
abbrev pub variadic_texts : List (List ℕ) → List (List ℕ)
variadic_texts [] = []
variadic_texts (text ∷ []) = (codes "..." ++ drop 2 text) ∷ []
variadic_texts (text ∷ more ∷ texts) = text ∷ variadic_texts (more ∷ texts)

abbrev pub params_text : Bool → List (List ℕ) → List ℕ
params_text variadic texts = codes "(" ++ (joined (codes ", ") (if variadic then variadic_texts texts else texts) ++ codes ")")

-- several results stand in parentheses
abbrev pub results_text : List (List ℕ) → List ℕ
results_text [] = []
results_text (text ∷ []) = codes " " ++ text
results_text (text ∷ more ∷ texts) = codes " (" ++ (joined (codes ", ") (text ∷ more ∷ texts) ++ codes ")")

-- `!` stands before the name of an embedded field
abbrev pub field_text : FieldOf (List ℕ) → List ℕ
field_text f = (if f.embedded then codes "!" else []) ++ (member_text f.name f.«package» ++ (codes " " ++ f.of))

-- a method has its function's text without `func`
abbrev pub method_text : MethodOf (List ℕ) → List ℕ
method_text m = member_text m.name m.«package» ++ drop 4 m.of

-- the text of a type, over those of its parts
abbrev pub term_text : TermOf (List ℕ) → List ℕ
term_text (t.Basic kind) = kind_text kind
term_text t.Error = codes "error"
term_text t.Realm = codes "realm"
term_text (t.Defined path name local) = member_text name path ++ local_text local
term_text (t.Pointer a) = codes "*" ++ a
term_text (t.Slice a) = codes "[]" ++ a
term_text (t.Array n a) = codes "[" ++ (decimal n ++ (codes "]" ++ a))
term_text (t.Map a b) = codes "map[" ++ (a ++ (codes "]" ++ b))
term_text (t.Function ps variadic rs) = codes "func" ++ (params_text variadic ps ++ results_text rs)
term_text (t.Struct fs) = codes "struct{" ++ (joined (codes "; ") (map field_text fs) ++ codes "}")
term_text (t.Interface ms) = codes "interface{" ++ (joined (codes "; ") (map method_text ms) ++ codes "}")
term_text _ = []

unfoldable pub type_text : GoType → List ℕ
type_text = fold-GoType (List ℕ) (λ x. term_text x.term)
