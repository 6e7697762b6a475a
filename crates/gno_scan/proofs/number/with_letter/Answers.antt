use Rattle.std.proofs.Common.{◌≡◌, ℕ, ◌∙◌, ap, drop, max}
use Rattle.std.proofs.lemmas.List.{take_rest}
use Rattle.gno_scan.specs.Numbers.{IsNumber}
use Rattle.gno_scan.specs.NumberLengths.{number_length, last_letter_length, joined}
use Rattle.gno_scan.proofs.Measuring.{counted}
use Rattle.gno_scan.proofs.Numbers.{number_measure}
use Rattle.gno_scan.proofs.number.with_letter.Goals as goal

pub returns-clause-longest : goal.returns-clause-longest
unfolding number_length
returns-clause-longest c =
    let real = c.args.real in
    let letter : c.last_letter_length.result ≡ last_letter_length (drop real c.args.text.now) = c.last_letter_length.ensures.count ∙ ap last_letter_length (take_rest c.args.text.now real) in
    let with_it : c.joined.result ≡ joined real (last_letter_length (drop real c.args.text.now)) = c.joined.ensures ∙ ap (joined real) letter in
    let here : c.max.result ≡ max real (joined real (last_letter_length (drop real c.args.text.now))) = c.max.ensures ∙ ap (max real) with_it in
    let count : c.max.result ≡ number_length c.args.text.now = here ∙ ap (λ (n : ℕ). max n (joined n (last_letter_length (drop n c.args.text.now)))) c.requires.real in
    counted IsNumber number_length number_measure c.args.text.now c.max.result count
