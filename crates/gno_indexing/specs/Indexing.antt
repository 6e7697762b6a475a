-- Parts of the rule on index expressions.
use Rattle.std.specs.Prelude.{ℕ, ◌||◌, Bool, false, Option}
use Rattle.gno_scan.specs.declared.token.Pos.{Pos}
use Rattle.gno_terms.specs.Tables.{Table}
use Rattle.gno_terms.specs.declared.term.GoType.{GoType}
use Rattle.gno_typed.specs.declared.step.IndexKind.TheVariants as i
use Rattle.gno_typed.specs.declared.step.TypedStepOf.TheVariants as step
use Rattle.gno_typing.specs.Binary.{calls_in, pos_in}
use Rattle.gno_typing.specs.Forms.{closed, with_step}
use Rattle.gno_typing.specs.Giving.{given}
use Rattle.gno_typing.specs.Indexes.{Counted, Elements, IsBelow, counted, element_stands, taken, takes_place}
use Rattle.gno_typing.specs.Verdicts.{Verdict, After, good}
use Rattle.gno_typing.specs.declared.form.FormOf.{FormOf}
use Rattle.gno_typing.specs.declared.value.Standing.{Standing}
use Rattle.gno_typing.specs.declared.value.Standing.TheVariants as st
use Rattle.gno_typing.specs.declared.value.ValueOf.{ValueOf}
use Rattle.gno_typing.specs.declared.value.ValueOf.TheVariants as v

-- an index that counts elements
abbrev pub index_counted : Table → Pos → Option ℕ → ValueOf GoType → Verdict Counted → Type 0
index_counted table place count index = After (taken table index) (counted table 54 55 (IsBelow count) place)

-- the element at an index
abbrev pub element : Pos → Standing → Bool → FormOf GoType → Elements → Counted → Verdict (ValueOf GoType) → Type 0
element place stands calls form e n = good (v.Typed place e.of (element_stands e.kind stands) calls (with_step form (step.Index place e.of e.kind (takes_place e.kind stands) n.form)))

-- the element of a map at a key in its typed form
abbrev pub map_element : Pos → Bool → FormOf GoType → GoType → FormOf GoType → Verdict (ValueOf GoType) → Type 0
map_element place calls form value key = good (v.Typed place value st.Element calls (with_step form (step.Index place value i.Map false (closed key))))

-- a map from a type of keys to a type of values
abbrev pub map_indexed : Table → Pos → Bool → FormOf GoType → ValueOf GoType → GoType → GoType → Verdict (ValueOf GoType) → Type 0
map_indexed table place calls form index key value = After (given table 49 (pos_in index) key index) (map_element place (calls || calls_in index) form value)
