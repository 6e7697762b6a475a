-- Underlying types that do not convert.
use Rattle.std.specs.Prelude.{◌≡◌, true}
use Rattle.gno_base.specs.declared.kind.Kind.TheVariants as k
use Rattle.gno_terms.specs.declared.term.GoType.{GoType}
use Rattle.gno_terms.specs.declared.term.TermOf.TheVariants as t
use Rattle.gno_terms.specs.Tables.{Table}
use Rattle.gno_terms.specs.Terms.{term_of}
use Rattle.gno_typing.specs.Classes.{is_integer}
use Rattle.gno_typing.specs.Conversions.{ElementsAre}

-- neither both integers, nor an integer or a slice that becomes a string, nor a string that becomes a slice
pub record AreApart (table : Table) (a b : GoType) : Type 0 where
  pub integers : is_integer (term_of a) ≡ true → is_integer (term_of b) ≡ true → ⊥
  pub character : is_integer (term_of a) ≡ true → term_of b ≡ t.Basic k.Text → ⊥
  pub from_bytes : ElementsAre k.Uint8 table a → term_of b ≡ t.Basic k.Text → ⊥
  pub from_characters : ElementsAre k.Int32 table a → term_of b ≡ t.Basic k.Text → ⊥
  pub bytes : term_of a ≡ t.Basic k.Text → ElementsAre k.Uint8 table b → ⊥
  pub characters : term_of a ≡ t.Basic k.Text → ElementsAre k.Int32 table b → ⊥
