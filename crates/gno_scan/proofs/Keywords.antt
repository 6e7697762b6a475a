-- The keyword that a word is.
use Rattle.std.proofs.Common.{◌≡◌, ◌≤◌, ◌<◌, ℕ, List, refl, sym, ap, ◌∙◌, subst, length, arith}
use Rattle.std.proofs.lemmas.Bool.Decides.{nat_tests}
use Rattle.std.specs.Prelude.{Option, Some, None, ◌↔◌}
use Rattle.gno_scan.specs.declared.kind.TokenKind.{TokenKind}
use Rattle.gno_scan.specs.declared.kind.TokenKind.TheVariants.{Break, Case, Chan, Const, Continue, Default, Defer, Else, Fallthrough, For, Func, Go, Goto, If, Import, Interface, Map, Package, Range, Return, Select, Struct, Switch, «Type», Var}
use Rattle.gno_scan.specs.Fixed.{keyword_spelling}
use Rattle.gno_scan.specs.Kinds.{kind_of, keywords_by_length, keywords_up_to_three, keywords_of_four, keywords_of_five, keywords_of_six, keywords_from_seven}
use Rattle.gno_scan.proofs.Spelled.{AreSpelled, spelled_in}

pub keywords_up_to_three-spelled : AreSpelled keyword_spelling keywords_up_to_three
unfolding keywords_up_to_three keyword_spelling
keywords_up_to_three-spelled = (refl, (refl, (refl, (refl, (refl, tt)))))

pub keywords_of_four-spelled : AreSpelled keyword_spelling keywords_of_four
unfolding keywords_of_four keyword_spelling
keywords_of_four-spelled = (refl, (refl, (refl, (refl, (refl, (refl, tt))))))

pub keywords_of_five-spelled : AreSpelled keyword_spelling keywords_of_five
unfolding keywords_of_five keyword_spelling
keywords_of_five-spelled = (refl, (refl, (refl, (refl, tt))))

pub keywords_of_six-spelled : AreSpelled keyword_spelling keywords_of_six
unfolding keywords_of_six keyword_spelling
keywords_of_six-spelled = (refl, (refl, (refl, (refl, (refl, tt)))))

pub keywords_from_seven-spelled : AreSpelled keyword_spelling keywords_from_seven
unfolding keywords_from_seven keyword_spelling
keywords_from_seven-spelled = (refl, (refl, (refl, (refl, (refl, tt)))))

abbrev IsFound : Option (List ℕ) → TokenKind → Type 0
IsFound None kind = Unit {0}
IsFound (Some word) kind = kind_of (keywords_by_length (length word)) word ≡ Some kind

each_found : (kind : TokenKind) → IsFound (keyword_spelling kind) kind
unfolding keyword_spelling keywords_up_to_three keywords_of_four keywords_of_five keywords_of_six keywords_from_seven
each_found Break = refl
each_found Case = refl
each_found Chan = refl
each_found Const = refl
each_found Continue = refl
each_found Default = refl
each_found Defer = refl
each_found Else = refl
each_found Fallthrough = refl
each_found For = refl
each_found Func = refl
each_found Go = refl
each_found Goto = refl
each_found If = refl
each_found Import = refl
each_found Interface = refl
each_found Map = refl
each_found Package = refl
each_found Range = refl
each_found Return = refl
each_found Select = refl
each_found Struct = refl
each_found Switch = refl
each_found «Type» = refl
each_found Var = refl
each_found kind = tt

found : (kind : TokenKind) (word : List ℕ) → keyword_spelling kind ≡ Some word → kind_of (keywords_by_length (length word)) word ≡ Some kind
found kind word e = subst (λ spelling. IsFound spelling kind) e (each_found kind)

-- no two keywords are spelled alike
pub one_keyword : (kind other : TokenKind) (word : List ℕ) → keyword_spelling kind ≡ Some word → keyword_spelling other ≡ Some word → kind ≡ other
one_keyword kind other word e e' = let here = found kind word e in let there = found other word e' in cc

-- the result is the word's keyword, where it is what the table for its length says
pub exact : (word : List ℕ) (entries : List (List ℕ × TokenKind)) (result : Option TokenKind) → keywords_by_length (length word) ≡ entries → AreSpelled keyword_spelling entries → result ≡ kind_of entries word →
    (kind : TokenKind) → (result ≡ Some kind) ↔ (keyword_spelling kind ≡ Some word)
exact word entries result table spelled is kind =
    (λ e. spelled_in keyword_spelling entries word kind spelled (sym is ∙ e), λ e. is ∙ ap (λ them. kind_of them word) (sym table) ∙ found kind word e)

pub table_up_to_three : (n : ℕ) → n ≤ 3 → keywords_by_length n ≡ keywords_up_to_three
table_up_to_three n h = grind (arith, nat_tests)

pub table_from_seven : (n : ℕ) → 6 < n → keywords_by_length n ≡ keywords_from_seven
table_from_seven n h = grind (arith, nat_tests)
