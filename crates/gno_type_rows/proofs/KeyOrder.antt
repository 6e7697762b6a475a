-- The order of keys tells different ones apart.
use Rattle.std.proofs.Common.{◌≡◌, refl, ap, ◌∙◌, Bool, true, false, ◌&&◌, rules, nat_eq}
use Rattle.std.specs.Ordering.{nat_cmp, is_eq}
use Rattle.std.specs.Cmp.{both_tied, unsigned_ties, nat_cmp_total, then_total, on_total, tied_itself}
use Rattle.std.specs.Cmp.{IsTotalOrder}
use Rattle.std.specs.Cmp.Lexicographic.{pointwise, slice_cmp, texts_ties, lists_ties, lists_total, nat_list_cmp_total}
use Rattle.std.proofs.lemmas.Bool.Decides.{Decides-eqb}
use Rattle.std.proofs.lemmas.Slice.Eq.{bytes_eq-Decides, slice_eq-Decides}
use Rattle.gno_type_rows.specs.Keys.{by_key}
use Rattle.gno_type_rows.specs.declared.key.Key.{Key}

abbrev same_by : Key → Key → Bool
same_by j k = nat_eq j.form k.form && (pointwise nat_eq j.numbers k.numbers && pointwise (pointwise nat_eq) j.texts k.texts)

tested : (j k : Key) → same_by j k ≡ is_eq (by_key j k)
tested j k = both_tied _ _ (nat_cmp j.form k.form) _ (unsigned_ties j.form k.form)
    (both_tied _ _ (slice_cmp nat_cmp j.numbers k.numbers) _ (texts_ties j.numbers k.numbers) (lists_ties (slice_cmp nat_cmp) texts_ties j.texts k.texts))

first : (a b : Bool) → (a && b) ≡ true → a ≡ true
first true b e = refl
first false b e = e

second : (a b : Bool) → (a && b) ≡ true → b ≡ true
second true b e = e
second false b e = absurd (search (rules, e))

made : (j k : Key) → j.form ≡ k.form → j.numbers ≡ k.numbers → j.texts ≡ k.texts → j ≡ k
made j k a b c = λ i. record { form = a i; numbers = b i; texts = c i }

pub equal_keys : (j k : Key) → is_eq (by_key j k) ≡ true → j ≡ k
equal_keys j k e =
    let all : same_by j k ≡ true = tested j k ∙ e in
    let rest : (pointwise nat_eq j.numbers k.numbers && pointwise (pointwise nat_eq) j.texts k.texts) ≡ true = second (nat_eq j.form k.form) _ all in
    made j k
    ((Decides-eqb j.form k.form).0 (first _ _ all))
    ((bytes_eq-Decides j.numbers k.numbers).0 (first _ _ rest))
    ((slice_eq-Decides bytes_eq-Decides j.texts k.texts _ refl).0 (second (pointwise nat_eq j.numbers k.numbers) _ rest))

total : IsTotalOrder by_key
total = then_total (on_total (λ k. k.form) nat_cmp_total) (then_total (on_total (λ k. k.numbers) nat_list_cmp_total) (on_total (λ k. k.texts) (lists_total nat_list_cmp_total)))

pub same_key : (k : Key) → is_eq (by_key k k) ≡ true
same_key k = ap is_eq (tied_itself total k)
