-- A product wraps alike where 2 ^ 64 is taken from a factor.
use Rattle.std.proofs.Common.{◌≡◌, ◌≤◌, ◌<◌, ◌+◌, ◌-◌, ◌*◌, ◌^◌, ◌%◌, ℕ, pos, ℤ, ◌+ℤ◌, ◌-ℤ◌, ◌*ℤ◌, arith, to_z, of_z, ap, sym, refl, ◌∙◌, subst, ⊎_elim, mul-le-mul, mul-le-mul_left}
use Rattle.std.proofs.lemmas.Int.{ints, fits_signed_mul, int_rem_euclid_is, unsigned_abs-mul}
use Rattle.std.specs.Int.{int_rem_euclid}
use Rattle.std.specs.Prelude.{unsigned_abs}
use Rattle.gno_base.specs.Range.{IsAlike, wrapped, least, span}
use Rattle.gno_base.specs.declared.kind.Kind.{Kind}
use Rattle.gno_base.specs.declared.kind.Kind.TheVariants.{Bool, Text, Int, Int8, Int16, Int32, Int64, Uint, Uint8, Uint16, Uint32, Uint64}
use Rattle.std.proofs.Math.IntN.{*ℤ_comm}
use Rattle.std.specs.Int.RustNames.{FitsSigned}
use mir.Syntax.{w128}
use borrow.Author.Differences.{up, down, same_in, same_out, sum_is_lem, product_is}

-- two numbers that differ by a multiple of n
record Differ (n : ℕ) (a b : ℤ) : Type 0 where
  pub more : ℕ
  pub less : ℕ
  pub same : a +ℤ pos (more * n) ≡ b +ℤ pos (less * n)

rem_same : (n : ℕ) (a b : ℤ) → 0 < n → Differ n a b → int_rem_euclid a (pos n) ≡ int_rem_euclid b (pos n)
rem_same n a b some d =
    let j = d.more in
    let k = d.less in
    let e = d.same in
    let t = down a + down b in
    let far : t * 1 ≤ t * n = mul-le-mul_left t some in
    let m = up a + (j + t) * n - down a in
    let from : (z : ℤ) (i : ℕ) → z +ℤ pos ((i + t) * n) ≡ pos m → int_rem_euclid z (pos n) ≡ pos (m % n) = λ z i h. int_rem_euclid_is z (pos n) n (i + t) m some refl h in
    from a j (omega (arith, ints)) ∙ sym (from b k (omega (arith, ints)))

times : (n : ℕ) (a b c : ℤ) → Differ n a b → Differ n (a *ℤ c) (b *ℤ c)
times n a b c d =
    let j = d.more in
    let k = d.less in
    let e = d.same in
    let sum : up a + j * n + down b ≡ up b + k * n + down a = omega (arith, same_out, sum_is_lem) in
    let above = ap (λ x. x * up c) sum in
    let below = ap (λ x. x * down c) sum in
    record { more = j * up c + k * down c; less = k * up c + j * down c; same = omega (arith, same_in, sum_is_lem, product_is) }

pub bounded : (a b : ℤ) (m : ℕ) → unsigned_abs a ≤ m → unsigned_abs b ≤ m → unsigned_abs (a *ℤ b) ≤ m * m
bounded a b m p q = omega (arith, unsigned_abs-mul a b, mul-le-mul p q)

-- how often an integer kind's span goes into 2 ^ 64
pub record Divides (kind : Kind) : Type 0 where
  pub some : 0 < span kind
  pub count : ℕ
  pub whole : count * span kind ≡ 2 ^ 64

pub divides : (kind : Kind) → 0 < span kind → Divides kind
divides Bool h = absurd (omega arith)
divides Text h = absurd (omega arith)
divides Int h = record { some = h; count = 1; whole = refl }
divides Int8 h = record { some = h; count = 2 ^ 56; whole = refl }
divides Int16 h = record { some = h; count = 2 ^ 48; whole = refl }
divides Int32 h = record { some = h; count = 2 ^ 32; whole = refl }
divides Int64 h = record { some = h; count = 1; whole = refl }
divides Uint h = record { some = h; count = 1; whole = refl }
divides Uint8 h = record { some = h; count = 2 ^ 56; whole = refl }
divides Uint16 h = record { some = h; count = 2 ^ 48; whole = refl }
divides Uint32 h = record { some = h; count = 2 ^ 32; whole = refl }
divides Uint64 h = record { some = h; count = 1; whole = refl }

differs : (kind : Kind) (a b : ℤ) → Divides kind → IsAlike a b → Differ (span kind) a b
differs kind a b d = ⊎_elim (λ e. record { more = 0; less = 0; same = ap (λ z. z +ℤ pos (0 * span kind)) e }) (λ e. record { more = d.count; less = 0; same = let w = d.whole in omega (arith, ints) })

moved : (n : ℕ) (a b l : ℤ) → Differ n a b → Differ n (a -ℤ l) (b -ℤ l)
moved n a b l d = let e = d.same in record { more = d.more; less = d.less; same = omega (arith, ints) }

flipped : (n : ℕ) (a b c : ℤ) → Differ n (a *ℤ c) (b *ℤ c) → Differ n (c *ℤ a) (c *ℤ b)
flipped n a b c d = subst (λ z. Differ n z (c *ℤ b)) (*ℤ_comm a c) (subst (λ z. Differ n (a *ℤ c) z) (*ℤ_comm b c) d)

-- a product wraps alike, whichever alike factors are taken
pub product_same : (kind : Kind) (a b a' b' : ℤ) → 0 < span kind → IsAlike a' a → IsAlike b' b → wrapped kind (a' *ℤ b') ≡ wrapped kind (a *ℤ b)
product_same kind a b a' b' h p q =
    let d = divides kind h in
    let first = rem_same (span kind) _ _ h (moved (span kind) _ _ (least kind) (times (span kind) a' a b' (differs kind a' a d p))) in
    let second = rem_same (span kind) _ _ h (moved (span kind) _ _ (least kind) (flipped (span kind) b' b a (times (span kind) b' b a (differs kind b' b d q)))) in
    ap (λ z. z +ℤ least kind) (first ∙ second)

pub products : (a a' b b' : ℤ) → a ≡ a' → b ≡ b' → a *ℤ b ≡ a' *ℤ b'
products a a' b b' p q = cc

abbrev pub read : ℤ → ℤ
read z = to_z w128 (of_z w128 z)

-- a number as the code has it
read_same : (z : ℤ) → unsigned_abs z ≤ 2 ^ 126 → read z ≡ z
read_same z h = omega (arith, ints)

pub fitting : (a b : ℤ) → unsigned_abs a ≤ 2 ^ 63 → unsigned_abs b ≤ 2 ^ 63 → FitsSigned w128 (read a *ℤ read b)
fitting a b p q =
    let same = products _ _ _ _ (read_same a (omega arith)) (read_same b (omega arith)) in
    subst (λ z. FitsSigned w128 z) (sym same) (fits_signed_mul w128 a b (2 ^ 63) (2 ^ 63) p q (omega arith))

pub computed : (a b : ℤ) → unsigned_abs a ≤ 2 ^ 63 → unsigned_abs b ≤ 2 ^ 63 → read (read a *ℤ read b) ≡ a *ℤ b
computed a b p q = ap read (products _ _ _ _ (read_same a (omega arith)) (read_same b (omega arith))) ∙ read_same (a *ℤ b) (bounded a b (2 ^ 63) p q)
