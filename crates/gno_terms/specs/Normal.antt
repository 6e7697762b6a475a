-- Identical types. Go specification, "Type identity": two types are identical where they have the same normal form.
use Rattle.std.specs.Prelude.{ℕ, ◌≡◌, List, [], ◌∷◌, map, if◌then◌else◌}
use Rattle.std.specs.declared.cmp.Ordering.{Ordering}
use Rattle.std.specs.Ordering.{nat_cmp, is_gt, on, then_cmp}
use Rattle.std.specs.Cmp.Lexicographic.{slice_cmp}
use Rattle.gno_terms.specs.declared.term.GoType.{GoType, fold-GoType}
use Rattle.gno_terms.specs.declared.term.TermOf.{TermOf}
use Rattle.gno_terms.specs.declared.term.TermOf.TheVariants as t
use Rattle.gno_terms.specs.declared.term.FieldOf.{FieldOf}
use Rattle.gno_terms.specs.declared.term.MethodOf.{MethodOf}
use Rattle.gno_terms.specs.Exported.{is_exported}
use Rattle.gno_terms.specs.Terms.{type_of}

-- an exported name is the same in every package
abbrev pub package_of : List ℕ → List ℕ → List ℕ
package_of name path = if is_exported name then [] else path

abbrev pub normal_field : {A : Type 0} → FieldOf A → FieldOf A
normal_field f = record f { «package» = package_of f.name f.«package» }

abbrev pub normal_method : {A : Type 0} → MethodOf A → MethodOf A
normal_method m = record m { «package» = package_of m.name m.«package» }

-- byte order of the names, then of the packages
abbrev pub by_name : {A : Type 0} → MethodOf A → MethodOf A → Ordering
by_name = then_cmp (on (λ m. m.name) (slice_cmp nat_cmp)) (on (λ m. m.«package») (slice_cmp nat_cmp))

-- a method before the first that does not stand before it
abbrev pub placed : {A : Type 0} → MethodOf A → List (MethodOf A) → List (MethodOf A)
placed m [] = m ∷ []
placed m (n ∷ ns) = if is_gt (by_name m n) then n ∷ placed m ns else m ∷ n ∷ ns

-- the methods in byte order; those of one name stay in their order
abbrev pub in_byte_order : {A : Type 0} → List (MethodOf A) → List (MethodOf A)
in_byte_order [] = []
in_byte_order (m ∷ ms) = placed m (in_byte_order ms)

-- the order of an interface's methods says nothing, nor does the package of an exported name
abbrev pub normal_term : {A : Type 0} → TermOf A → TermOf A
normal_term (t.Struct fs) = t.Struct (map normal_field fs)
normal_term (t.Interface ms) = t.Interface (in_byte_order (map normal_method ms))
normal_term x = x

-- the type in its normal form
unfoldable pub normal : GoType → GoType
normal = fold-GoType GoType (λ x. type_of (normal_term x.term))

abbrev pub Identical : GoType → GoType → Type 0
Identical s u = normal s ≡ normal u
