-- A constant that a literal of one kind spells.
use Rattle.std.proofs.Common.{◌≡◌, ℕ, ℤ, pos, List, [], ◌∷◌, ◌++◌, sym, subst, refl, ap, arith, ◌∙◌}
use Rattle.std.specs.Prelude.{◌≢◌, All, Err, IfOk, IfSome, None, Ok, Option, Result, Some}
use Rattle.gno_constants.specs.declared.constant.Constant.{Constant}
use Rattle.gno_constants.specs.declared.constant.Constant.TheVariants.{Text, Whole}
use Rattle.gno_scan.specs.Quoted.{IsInside}
use Rattle.gno_scan.proofs.Fronts.{same_head}
use Rattle.gno_scan.proofs.OneWrong.{same_inside}
use Rattle.gno_tree.specs.declared.word.LiteralKind.{LiteralKind}
use Rattle.gno_tree.specs.declared.word.LiteralKind.TheVariants.{Integer, Rune, String}
use Rattle.gno_literals.specs.Literals.{IntegerValue, RuneValue, Spells, TextValue, without_returns}
use Rattle.gno_literals.specs.Literals.{Spells as spells}
use Rattle.gno_literals.specs.Literals.{TextValue as text}
use Rattle.gno_literals.specs.Parts.{CharacterValue, PartsValue}
use Rattle.gno_literals.proofs.OneValue.{double, one_parts}
use Rattle.gno_literals.proofs.Runes.{one_character}

pub record IsInteger (word : List ℕ) (constant : Constant) : Type 0 where
  pub value : ℕ
  pub constant_is : constant ≡ Whole (pos value)
  pub is : IntegerValue word value

pub record IsRune (word : List ℕ) (constant : Constant) : Type 0 where
  pub value : ℕ
  pub constant_is : constant ≡ Whole (pos value)
  pub is : RuneValue word value

pub record IsText (word : List ℕ) (constant : Constant) : Type 0 where
  pub bytes : List ℕ
  pub constant_is : constant ≡ Text bytes
  pub is : TextValue word bytes

pub integer_of : (kind : LiteralKind) (word : List ℕ) (constant : Constant) → Spells kind word constant → kind ≡ Integer → IsInteger word constant
integer_of _ _ _ (spells.integer word value is) e = record { value = value; constant_is = refl; is = is }
integer_of _ _ _ (spells.rune word value is) e = absurd (cc)
integer_of _ _ _ (spells.string word bytes is) e = absurd (cc)

pub rune_of : (kind : LiteralKind) (word : List ℕ) (constant : Constant) → Spells kind word constant → kind ≡ Rune → IsRune word constant
rune_of _ _ _ (spells.integer word value is) e = absurd (cc)
rune_of _ _ _ (spells.rune word value is) e = record { value = value; constant_is = refl; is = is }
rune_of _ _ _ (spells.string word bytes is) e = absurd (cc)

pub text_of : (kind : LiteralKind) (word : List ℕ) (constant : Constant) → Spells kind word constant → kind ≡ String → IsText word constant
text_of _ _ _ (spells.integer word value is) e = absurd (cc)
text_of _ _ _ (spells.rune word value is) e = absurd (cc)
text_of _ _ _ (spells.string word bytes is) e = record { bytes = bytes; constant_is = refl; is = is }

-- the word has these bytes between such quotes
abbrev pub IsBetween : ℕ → List ℕ → List ℕ → Type 0
IsBetween quote word inside = word ≡ quote ∷ (inside ++ quote ∷ [])

pub rune_value : (word inside : List ℕ) (value : ℕ) → IsBetween 39 word inside → IsInside 39 inside → CharacterValue 39 inside value → RuneValue word value
rune_value word inside value spelled line is = record { literal = record { inside = inside; spelled = spelled; one_line = line }; character = is }

pub no_rune : (word inside : List ℕ) → IsBetween 39 word inside → (IsInside 39 inside → (value : ℕ) → CharacterValue 39 inside value → ⊥) → (value : ℕ) → RuneValue word value → ⊥
no_rune word inside spelled none value is =
    let same : is.literal.inside ≡ inside = same_inside 39 word is.literal.inside inside is.literal.spelled spelled in
    none (subst (λ (t : List ℕ). IsInside 39 t) same is.literal.one_line) value (subst (λ (t : List ℕ). CharacterValue 39 t value) same is.character)

pub not_between_runes : (word : List ℕ) → ((inside : List ℕ) → IsBetween 39 word inside → ⊥) → (value : ℕ) → RuneValue word value → ⊥
not_between_runes word none value is = none is.literal.inside is.literal.spelled

pub interpreted_value : (word inside bytes : List ℕ) → IsBetween 34 word inside → IsInside 34 inside → PartsValue 34 inside bytes → TextValue word bytes
interpreted_value word inside bytes spelled line is = text.interpreted word bytes (record { literal = record { inside = inside; spelled = spelled; one_line = line }; parts = is })

pub raw_value : (word inside bytes : List ℕ) → IsBetween 96 word inside → All (λ b. b ≢ 96) inside → bytes ≡ without_returns inside → TextValue word bytes
raw_value word inside bytes spelled none e = rw e (text.raw word (record { inside = inside; spelled = spelled; no_quote = none }))

other_quote : (word inside inside' : List ℕ) → IsBetween 34 word inside → IsBetween 96 word inside' → ⊥
other_quote word inside inside' e e' = let f : 34 ≡ 96 = same_head 34 96 (inside ++ 34 ∷ []) (inside' ++ 96 ∷ []) (sym e ∙ e') in omega (arith, f)

pub no_interpreted : (word inside : List ℕ) → IsBetween 34 word inside → (IsInside 34 inside → (bytes : List ℕ) → PartsValue 34 inside bytes → ⊥) → (bytes : List ℕ) → TextValue word bytes → ⊥
no_interpreted word inside spelled none _ (text.interpreted w bytes is) =
    let same : is.literal.inside ≡ inside = same_inside 34 word is.literal.inside inside is.literal.spelled spelled in
    none (subst (λ (t : List ℕ). IsInside 34 t) same is.literal.one_line) bytes (subst (λ (t : List ℕ). PartsValue 34 t bytes) same is.parts)
no_interpreted word inside spelled none _ (text.raw w literal) = other_quote word inside literal.inside spelled literal.spelled

pub no_raw : (word inside : List ℕ) → IsBetween 96 word inside → (All (λ b. b ≢ 96) inside → ⊥) → (bytes : List ℕ) → TextValue word bytes → ⊥
no_raw word inside spelled none _ (text.interpreted w bytes is) = other_quote word is.literal.inside inside is.literal.spelled spelled
no_raw word inside spelled none _ (text.raw w literal) =
    let same : literal.inside ≡ inside = same_inside 96 word literal.inside inside literal.spelled spelled in
    none (subst (λ (t : List ℕ). All (λ b. b ≢ 96) t) same literal.no_quote)

pub no_text : (word : List ℕ) → ((inside : List ℕ) → IsBetween 34 word inside → ⊥) → ((inside : List ℕ) → IsBetween 96 word inside → ⊥) → (bytes : List ℕ) → TextValue word bytes → ⊥
no_text word none none' _ (text.interpreted w bytes is) = none is.literal.inside is.literal.spelled
no_text word none none' _ (text.raw w literal) = none' literal.inside literal.spelled

-- a string literal has one value
pub one_text : (word word' bytes bytes' : List ℕ) → TextValue word bytes → TextValue word' bytes' → word ≡ word' → bytes ≡ bytes'
one_text _ _ _ _ (text.interpreted word bytes is) (text.interpreted word' bytes' is') e =
    let same : is'.literal.inside ≡ is.literal.inside = same_inside 34 word is'.literal.inside is.literal.inside (e ∙ is'.literal.spelled) is.literal.spelled in
    one_parts 34 is.literal.inside is'.literal.inside bytes bytes' double is.parts is'.parts same
one_text _ _ _ _ (text.interpreted word bytes is) (text.raw word' literal) e = absurd (other_quote word is.literal.inside literal.inside is.literal.spelled (e ∙ literal.spelled))
one_text _ _ _ _ (text.raw word literal) (text.interpreted word' bytes is) e = absurd (other_quote word' is.literal.inside literal.inside is.literal.spelled (sym e ∙ literal.spelled))
one_text _ _ _ _ (text.raw word literal) (text.raw word' literal') e =
    ap without_returns (same_inside 96 word literal.inside literal'.inside literal.spelled (e ∙ literal'.spelled))

pub one_rune : (word : List ℕ) (value value' : ℕ) → RuneValue word value → RuneValue word value' → value ≡ value'
one_rune word value value' is is' =
    one_character is.literal.inside is'.literal.inside value value' is.character is'.character (same_inside 39 word is.literal.inside is'.literal.inside is.literal.spelled is'.literal.spelled)

pub one_integer : (word : List ℕ) (value value' : ℕ) → IntegerValue word value → IntegerValue word value' → value ≡ value'
one_integer word value value' is is' = is.value_is.value_is ∙ sym is'.value_is.value_is

-- what an integer, a rune and a string literal spell
pub integer_at : (word : List ℕ) (value : ℕ) (number : ℤ) → IntegerValue word value → number ≡ pos value → Spells Integer word (Whole number)
integer_at word value number is e = subst (λ (z : ℤ). Spells Integer word (Whole z)) (sym e) (spells.integer word value is)

pub rune_at : (word : List ℕ) (value : ℕ) (number : ℤ) → RuneValue word value → number ≡ pos value → Spells Rune word (Whole number)
rune_at word value number is e = subst (λ (z : ℤ). Spells Rune word (Whole z)) (sym e) (spells.rune word value is)

pub text_at : (word bytes : List ℕ) → TextValue word bytes → Spells String word (Text bytes)
text_at word bytes is = spells.string word bytes is

pub no_constant_integer : (word : List ℕ) → ((value : ℕ) → IntegerValue word value → ⊥) → (constant : Constant) → Spells Integer word constant → ⊥
no_constant_integer word none constant is = let o = integer_of Integer word constant is refl in none o.value o.is

pub no_constant_rune : (word : List ℕ) → ((value : ℕ) → RuneValue word value → ⊥) → (constant : Constant) → Spells Rune word constant → ⊥
no_constant_rune word none constant is = let o = rune_of Rune word constant is refl in none o.value o.is

pub no_constant_text : (word : List ℕ) → ((bytes : List ℕ) → TextValue word bytes → ⊥) → (constant : Constant) → Spells String word constant → ⊥
no_constant_text word none constant is = let o = text_of String word constant is refl in none o.bytes o.is

-- the same where a call may find none, or want memory
pub if_text : (word : List ℕ) (found : Option (List ℕ)) (bytes : List ℕ) → found ≡ Some bytes → IfSome found (λ it. TextValue word it) → Spells String word (Text bytes)
if_text word None bytes e is = absurd (cc)
if_text word (Some it) bytes e is = let same : it ≡ bytes = cc in subst (λ (t : List ℕ). Spells String word (Text t)) same (text_at word it is)

pub if_rune : (word inside : List ℕ) (found : Option ℕ) → IsBetween 39 word inside → IfSome found (λ value. IsInside 39 inside) → IfSome found (λ value. CharacterValue 39 inside value) → IfSome found (λ value. RuneValue word value)
if_rune word inside None spelled line is = tt
if_rune word inside (Some value) spelled line is = rune_value word inside value spelled line is

pub if_interpreted : {E : Type 0} (word inside : List ℕ) (r : Result (Option (List ℕ)) E) → IsBetween 34 word inside → IfOk r (λ it. IfSome it (λ bytes. IsInside 34 inside)) →
    IfOk r (λ it. IfSome it (λ bytes. PartsValue 34 inside bytes)) → IfOk r (λ it. IfSome it (λ bytes. TextValue word bytes))
if_interpreted word inside (Ok None) spelled line is = tt
if_interpreted word inside (Ok (Some bytes)) spelled line is = interpreted_value word inside bytes spelled line is
if_interpreted word inside (Err e) spelled line is = tt

pub if_raw : {E : Type 0} (word inside : List ℕ) (r : Result (Option (List ℕ)) E) → IsBetween 96 word inside → IfOk r (λ it. IfSome it (λ bytes. All (λ b. b ≢ 96) inside)) →
    IfOk r (λ it. IfSome it (λ bytes. bytes ≡ without_returns inside)) → IfOk r (λ it. IfSome it (λ bytes. TextValue word bytes))
if_raw word inside (Ok None) spelled none is = tt
if_raw word inside (Ok (Some bytes)) spelled none is = raw_value word inside bytes spelled none is
if_raw word inside (Err e) spelled none is = tt

pub none_interpreted : {E : Type 0} (word inside : List ℕ) (r : Result (Option (List ℕ)) E) → IsBetween 34 word inside → IfOk r (λ it. it ≡ None → IsInside 34 inside → (bytes : List ℕ) → PartsValue 34 inside bytes → ⊥) →
    IfOk r (λ it. it ≡ None → (bytes : List ℕ) → TextValue word bytes → ⊥)
none_interpreted word inside (Ok it) spelled none = λ e. no_interpreted word inside spelled (none e)
none_interpreted word inside (Err e) spelled none = tt

pub none_raw : {E : Type 0} (word inside : List ℕ) (r : Result (Option (List ℕ)) E) → IsBetween 96 word inside → IfOk r (λ it. it ≡ None → All (λ b. b ≢ 96) inside → ⊥) →
    IfOk r (λ it. it ≡ None → (bytes : List ℕ) → TextValue word bytes → ⊥)
none_raw word inside (Ok it) spelled none = λ e. no_raw word inside spelled (none e)
none_raw word inside (Err e) spelled none = tt
