-- The operator or mark at a text's front.
use Rattle.std.proofs.Common.{◌≡◌, ◌≤◌, ℕ, Bool, List, [], ◌∷◌, ◌++◌, refl, arith, sym, subst, take, drop, length, length-take, take-append-drop}
use Rattle.std.specs.Prelude.{true, false, Option, Some, None, if◌then◌else◌, ◌==◌}
use Rattle.std.proofs.lemmas.Bool.{eqb-true}
use Rattle.gno_scan.specs.declared.kind.TokenKind.{TokenKind}
use Rattle.gno_scan.specs.declared.kind.TokenKind.TheVariants.{Plus, Minus, Star, Slash, Percent, And, Or, Caret, ShiftLeft, ShiftRight, AndNot, PlusAssign, MinusAssign, StarAssign, SlashAssign, PercentAssign, AndAssign, OrAssign, CaretAssign, ShiftLeftAssign, ShiftRightAssign, AndNotAssign, BothTrue, OneTrue, Arrow, Increment, Decrement, Equal, NotEqual, Less, LessEqual, Greater, GreaterEqual, Assign, Define, Not, Tilde, Ellipsis, LeftParen, RightParen, LeftBracket, RightBracket, LeftBrace, RightBrace, Comma, Period, Colon, Semicolon}
use Rattle.gno_scan.specs.Fixed.{operator_spelling, IsOperator}
use Rattle.gno_scan.specs.Kinds.{at_one, at_three, at_two, kind_of, operators_of_one, operators_of_three, other_operators_of_two, one_byte, three_bytes, two_bytes, operators_with_equals}
use Rattle.gno_scan.proofs.Spelled.{AreSpelled, spelled_in}
use Rattle.gno_scan.specs.Longest.{BeginsWithNone, IsLongest}

operators_of_one-spelled : AreSpelled operator_spelling operators_of_one
unfolding operators_of_one operator_spelling
operators_of_one-spelled = (refl, (refl, (refl, (refl, (refl, (refl, (refl, (refl, (refl, (refl, (refl, (refl, (refl, (refl, (refl, (refl, (refl, (refl, (refl, (refl, (refl, (refl, (refl, tt)))))))))))))))))))))))

operators_with_equals-spelled : AreSpelled operator_spelling operators_with_equals
unfolding operators_with_equals operator_spelling
operators_with_equals-spelled = (refl, (refl, (refl, (refl, (refl, (refl, (refl, (refl, (refl, (refl, (refl, (refl, (refl, tt)))))))))))))

other_operators_of_two-spelled : AreSpelled operator_spelling other_operators_of_two
unfolding other_operators_of_two operator_spelling
other_operators_of_two-spelled = (refl, (refl, (refl, (refl, (refl, (refl, (refl, (refl, tt))))))))

operators_of_three-spelled : AreSpelled operator_spelling operators_of_three
unfolding operators_of_three operator_spelling
operators_of_three-spelled = (refl, (refl, (refl, (refl, tt))))

-- the kind of a word that is whole
abbrev of_word : List ℕ → Option TokenKind
of_word (a ∷ []) = one_byte a
of_word (a ∷ b ∷ []) = two_bytes a b
of_word (a ∷ b ∷ c ∷ []) = three_bytes a b c
of_word word = None

abbrev IsFound : Option (List ℕ) → TokenKind → Type 0
IsFound None kind = Unit {0}
IsFound (Some word) kind = of_word word ≡ Some kind

each_found : (kind : TokenKind) → IsFound (operator_spelling kind) kind
unfolding operator_spelling operators_of_one other_operators_of_two operators_with_equals operators_of_three
each_found Plus = refl
each_found Minus = refl
each_found Star = refl
each_found Slash = refl
each_found Percent = refl
each_found And = refl
each_found Or = refl
each_found Caret = refl
each_found ShiftLeft = refl
each_found ShiftRight = refl
each_found AndNot = refl
each_found PlusAssign = refl
each_found MinusAssign = refl
each_found StarAssign = refl
each_found SlashAssign = refl
each_found PercentAssign = refl
each_found AndAssign = refl
each_found OrAssign = refl
each_found CaretAssign = refl
each_found ShiftLeftAssign = refl
each_found ShiftRightAssign = refl
each_found AndNotAssign = refl
each_found BothTrue = refl
each_found OneTrue = refl
each_found Arrow = refl
each_found Increment = refl
each_found Decrement = refl
each_found Equal = refl
each_found NotEqual = refl
each_found Less = refl
each_found LessEqual = refl
each_found Greater = refl
each_found GreaterEqual = refl
each_found Assign = refl
each_found Define = refl
each_found Not = refl
each_found Tilde = refl
each_found Ellipsis = refl
each_found LeftParen = refl
each_found RightParen = refl
each_found LeftBracket = refl
each_found RightBracket = refl
each_found LeftBrace = refl
each_found RightBrace = refl
each_found Comma = refl
each_found Period = refl
each_found Colon = refl
each_found Semicolon = refl
each_found kind = tt

found : (kind : TokenKind) (word : List ℕ) → operator_spelling kind ≡ Some word → of_word word ≡ Some kind
found kind word e = subst (λ spelling. IsFound spelling kind) e (each_found kind)

-- how long a word can be, by what stands at the front of a text that begins with it
at_most_three : (word : List ℕ) (kind : TokenKind) → of_word word ≡ Some kind → length word ≤ 3
at_most_three [] kind e = omega arith
at_most_three (a ∷ []) kind e = omega arith
at_most_three (a ∷ b ∷ []) kind e = omega arith
at_most_three (a ∷ b ∷ c ∷ []) kind e = omega arith
at_most_three (a ∷ b ∷ c ∷ d ∷ word) kind e = cc

at_most_two : (word rest : List ℕ) (kind : TokenKind) → of_word word ≡ Some kind → at_three (word ++ rest) ≡ None → length word ≤ 2
at_most_two [] rest kind e n = omega arith
at_most_two (a ∷ []) rest kind e n = omega arith
at_most_two (a ∷ b ∷ []) rest kind e n = omega arith
at_most_two (a ∷ b ∷ c ∷ []) rest kind e n = cc
at_most_two (a ∷ b ∷ c ∷ d ∷ word) rest kind e n = cc

at_most_one : (word rest : List ℕ) (kind : TokenKind) → of_word word ≡ Some kind → at_three (word ++ rest) ≡ None → at_two (word ++ rest) ≡ None → length word ≤ 1
at_most_one [] rest kind e n m = omega arith
at_most_one (a ∷ []) rest kind e n m = omega arith
at_most_one (a ∷ b ∷ []) rest kind e n m = cc
at_most_one (a ∷ b ∷ c ∷ []) rest kind e n m = cc
at_most_one (a ∷ b ∷ c ∷ d ∷ word) rest kind e n m = cc

not_any : (word rest : List ℕ) (kind : TokenKind) → of_word word ≡ Some kind → at_three (word ++ rest) ≡ None → at_two (word ++ rest) ≡ None → at_one (word ++ rest) ≡ None → ⊥
not_any [] rest kind e n m l = cc
not_any (a ∷ []) rest kind e n m l = cc
not_any (a ∷ b ∷ []) rest kind e n m l = cc
not_any (a ∷ b ∷ c ∷ []) rest kind e n m l = cc
not_any (a ∷ b ∷ c ∷ d ∷ word) rest kind e n m l = cc

spelled_two : (a b : ℕ) (kind : TokenKind) → two_bytes a b ≡ Some kind → operator_spelling kind ≡ Some (a ∷ b ∷ [])
spelled_two a b kind e = by_second (b == 61) refl e
  where
    by_second : (t : Bool) → (b == 61) ≡ t → (if t then kind_of operators_with_equals (a ∷ 61 ∷ []) else kind_of other_operators_of_two (a ∷ b ∷ [])) ≡ Some kind → operator_spelling kind ≡ Some (a ∷ b ∷ [])
    by_second true same is = rw (eqb-true b 61 same) (spelled_in operator_spelling operators_with_equals _ kind operators_with_equals-spelled is)
    by_second false same is = spelled_in operator_spelling other_operators_of_two _ kind other_operators_of_two-spelled is

-- the operator is what the first bytes spell
pub record Spells (kind : TokenKind) (n : ℕ) (text : List ℕ) : Type 0 where
  pub spelled : operator_spelling kind ≡ Some (take n text)
  pub within : n ≤ length text

pub spells_three : (text : List ℕ) (kind : TokenKind) → at_three text ≡ Some kind → Spells kind 3 text
spells_three [] kind e = cc
spells_three (a ∷ []) kind e = cc
spells_three (a ∷ b ∷ []) kind e = cc
spells_three (a ∷ b ∷ c ∷ rest) kind e = record { spelled = spelled_in operator_spelling operators_of_three _ kind operators_of_three-spelled e; within = omega arith }

pub spells_two : (text : List ℕ) (kind : TokenKind) → at_two text ≡ Some kind → Spells kind 2 text
spells_two [] kind e = cc
spells_two (a ∷ []) kind e = cc
spells_two (a ∷ b ∷ rest) kind e = record { spelled = spelled_two a b kind e; within = omega arith }

pub spells_one : (text : List ℕ) (kind : TokenKind) → at_one text ≡ Some kind → Spells kind 1 text
spells_one [] kind e = cc
spells_one (a ∷ rest) kind e = record { spelled = spelled_in operator_spelling operators_of_one _ kind operators_of_one-spelled e; within = omega arith }

longest : (text : List ℕ) (kind : TokenKind) (n : ℕ) → Spells kind n text → ((word rest : List ℕ) (other : TokenKind) → of_word word ≡ Some other → text ≡ word ++ rest → length word ≤ n) →
    IsLongest IsOperator text (take n text)
longest text kind n s h = record {
  spelled = (kind, s.spelled);
  begins = (drop n text, sym (take-append-drop n text));
  longest = λ word is begins. let most = h word begins.0 is.0 (found is.0 word is.1) begins.1 in omega (arith, s.within, length-take n text);
}

pub longest_three : (text : List ℕ) (kind : TokenKind) → at_three text ≡ Some kind → IsLongest IsOperator text (take 3 text)
longest_three text kind e = longest text kind 3 (spells_three text kind e) (λ word rest other is front. at_most_three word other is)

pub longest_two : (text : List ℕ) (kind : TokenKind) → at_three text ≡ None → at_two text ≡ Some kind → IsLongest IsOperator text (take 2 text)
longest_two text kind n e = longest text kind 2 (spells_two text kind e) (λ word rest other is front. at_most_two word rest other is (rw front at n))

pub longest_one : (text : List ℕ) (kind : TokenKind) → at_three text ≡ None → at_two text ≡ None → at_one text ≡ Some kind → IsLongest IsOperator text (take 1 text)
longest_one text kind n m e = longest text kind 1 (spells_one text kind e) (λ word rest other is front. at_most_one word rest other is (rw front at n) (rw front at m))

pub none_begins : (text : List ℕ) → at_three text ≡ None → at_two text ≡ None → at_one text ≡ None → BeginsWithNone IsOperator text
none_begins text n m l word is begins = not_any word begins.0 is.0 (found is.0 word is.1) (rw begins.1 at n) (rw begins.1 at m) (rw begins.1 at l)

-- no two operators are spelled alike
pub one_operator : (kind other : TokenKind) (word : List ℕ) → operator_spelling kind ≡ Some word → operator_spelling other ≡ Some word → kind ≡ other
one_operator kind other word e e' = let here = found kind word e in let there = found other word e' in cc
