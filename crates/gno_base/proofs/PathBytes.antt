-- No path holds a zero byte.
use Rattle.std.proofs.Common.{◌≡◌, ℕ, ◌-◌, List, [], ◌∷◌, ◌++◌, length, take, drop, refl, arith, ap, ◌∙◌, sym, cond, Bool, true, false, subst}
use Rattle.std.specs.Prelude.{nat_lt, nat_le, nat_eq, ◌==◌, ◌&&◌, ◌||◌, codes, Option, Some, None}
use Rattle.std.specs.List.{list_all, slice_split, onto_first, starts_with, ends_with}
use Rattle.std.specs.Option.{option_map}
use Rattle.std.specs.Str.{bytes_eq}
use Rattle.std.proofs.lemmas.Bool.{and_parts, and_from, lt-ltb}
use Rattle.std.proofs.lemmas.Bool.Decides.{nat_tests, Decides-eqb}
use Rattle.std.proofs.lemmas.List.Folds.{list_all-append}
use Rattle.std.proofs.lemmas.Option.{none-some}
use Rattle.std.proofs.lemmas.Slice.Eq.{bytes_eq-Decides, starts_is, ends_is}
use Rattle.gno_base.specs.declared.path.Path.{Path}
use Rattle.gno_base.specs.declared.path.PathKind.{PathKind}
use Rattle.gno_base.specs.declared.path.PathKind.TheVariants.{Realm, Pure, Run, Bundled}
use Rattle.gno_base.specs.Callers.{is_small_letter, is_caller_byte, is_caller}
use Rattle.gno_base.specs.Paths.{is_name_byte, is_name, are_names, is_under, is_run, is_run_path, is_bundled, kind_by_form, kind_of, path_of}

abbrev pub has_no_zero : List ℕ → Bool
has_no_zero text = list_all (λ b. nat_lt 0 b) text

weaken : (p q : ℕ → Bool) → ((b : ℕ) → p b ≡ true → q b ≡ true) → (bs : List ℕ) → list_all p bs ≡ true → list_all q bs ≡ true
weaken p q h [] e = refl
weaken p q h (b ∷ bs) e = let t = and_parts (p b) (list_all p bs) e in and_from (q b) (list_all q bs) (h b t.0) (weaken p q h bs t.1)

joined : (a b : List ℕ) → has_no_zero a ≡ true → has_no_zero b ≡ true → has_no_zero (a ++ b) ≡ true
joined a b p q = list_all-append (λ b. nat_lt 0 b) a b ∙ and_from (has_no_zero a) (has_no_zero b) p q

small : (b : ℕ) → is_small_letter b ≡ true → nat_lt 0 b ≡ true
small b e = grind (arith, nat_tests)

in_caller : (b : ℕ) → is_caller_byte b ≡ true → nat_lt 0 b ≡ true
in_caller b e = grind (arith, nat_tests)

in_name : (b : ℕ) → is_name_byte b ≡ true → nat_lt 0 b ≡ true
in_name b e = grind (arith, nat_tests)

name : (part : List ℕ) → is_name part ≡ true → has_no_zero part ≡ true
name [] e = refl
name (b ∷ bs) e =
    let t = and_parts (is_small_letter b) (list_all is_name_byte bs) e in
    and_from (nat_lt 0 b) (has_no_zero bs) (small b t.0) (weaken is_name_byte (λ b. nat_lt 0 b) in_name bs t.1)

all_names : (parts : List (List ℕ)) → list_all is_name parts ≡ true → list_all has_no_zero parts ≡ true
all_names [] e = refl
all_names (part ∷ parts) e =
    let t = and_parts (is_name part) (list_all is_name parts) e in and_from (has_no_zero part) (list_all has_no_zero parts) (name part t.0) (all_names parts t.1)

first : (b : ℕ) (parts : List (List ℕ)) → list_all has_no_zero (onto_first b parts) ≡ true → (nat_lt 0 b ≡ true) × (list_all has_no_zero parts ≡ true)
first b [] e = ((and_parts (nat_lt 0 b) true (and_parts (nat_lt 0 b && true) true e).0).0, refl)
first b (part ∷ parts) e =
    let t = and_parts (nat_lt 0 b && has_no_zero part) (list_all has_no_zero parts) e in
    let u = and_parts (nat_lt 0 b) (has_no_zero part) t.0 in
    (u.0, and_from (has_no_zero part) (list_all has_no_zero parts) u.1 t.1)

abbrev split : List ℕ → List (List ℕ)
split text = slice_split (λ b. b == 47) text

split_at : (slash : Bool) (b : ℕ) (parts : List (List ℕ)) → (slash ≡ true → nat_lt 0 b ≡ true) → list_all has_no_zero (cond slash ([] ∷ parts) (onto_first b parts)) ≡ true →
    (nat_lt 0 b ≡ true) × (list_all has_no_zero parts ≡ true)
split_at true b parts p e = (p refl, e)
split_at false b parts p e = first b parts e

parts : (text : List ℕ) → list_all has_no_zero (split text) ≡ true → has_no_zero text ≡ true
parts [] e = refl
parts (b ∷ bs) e =
    let t = split_at (b == 47) b (split bs) (λ s. let k : b ≡ 47 = (Decides-eqb b 47).0 s in lt-ltb 0 b (omega arith)) e in
    and_from (nat_lt 0 b) (has_no_zero bs) t.0 (parts bs t.1)

under : (front text : List ℕ) → has_no_zero front ≡ true → is_under front text ≡ true → has_no_zero text ≡ true
under front text p e =
    let t = and_parts (starts_with nat_eq text front) (are_names (drop (length front) text)) e in
    let s = (starts_is Decides-eqb text front (starts_with nat_eq text front) refl).0 t.0 in
    subst (λ (x : List ℕ). has_no_zero x ≡ true) (sym s) (joined front (drop (length front) text) p (parts (drop (length front) text) (all_names (split (drop (length front) text)) t.1)))

caller : (text : List ℕ) → is_caller text ≡ true → has_no_zero text ≡ true
caller text e =
    let few = nat_le (length text) 64 && list_all is_caller_byte text in
    weaken is_caller_byte (λ b. nat_lt 0 b) in_caller text (and_parts (nat_le (length text) 64) (list_all is_caller_byte text) (and_parts (nat_le 1 (length text)) few e).1).1

run : (text : List ℕ) → is_run text ≡ true → has_no_zero text ≡ true
run text e =
    let t = and_parts (ends_with nat_eq text (codes "/run")) (is_caller (take (length text - 4) text)) e in
    let s = (ends_is Decides-eqb text (codes "/run") (ends_with nat_eq text (codes "/run")) refl).0 t.0 in
    subst (λ (x : List ℕ). has_no_zero x ≡ true) (sym s) (joined (take (length text - 4) text) (codes "/run") (caller (take (length text - 4) text) t.1) refl)

run_path : (text : List ℕ) → is_run_path text ≡ true → has_no_zero text ≡ true
run_path text e =
    let t = and_parts (starts_with nat_eq text (codes "gno.land/e/")) (is_run (drop 11 text)) e in
    let s = (starts_is Decides-eqb text (codes "gno.land/e/") (starts_with nat_eq text (codes "gno.land/e/")) refl).0 t.0 in
    subst (λ (x : List ℕ). has_no_zero x ≡ true) (sym s) (joined (codes "gno.land/e/") (drop 11 text) refl (run (drop 11 text) t.1))

either : (x y : Bool) {P : Type 0} → (x || y) ≡ true → (x ≡ true → P) → (y ≡ true → P) → P
either true y e p q = p refl
either false y e p q = q e

is_text : (text word : List ℕ) → has_no_zero word ≡ true → bytes_eq text word ≡ true → has_no_zero text ≡ true
is_text text word p e = ap has_no_zero ((bytes_eq-Decides text word).0 e) ∙ p

comes_with : (text : List ℕ) → is_bundled text ≡ true → has_no_zero text ≡ true
comes_with text e =
    either _ _ e (is_text text (codes "chain") refl) (λ e. either _ _ e (is_text text (codes "chain/runtime") refl) (λ e. either _ _ e (is_text text (codes "crypto/sha256") refl)
    (λ e. either _ _ e (is_text text (codes "errors") refl) (λ e. either _ _ e (is_text text (codes "strconv") refl) (is_text text (codes "testing") refl)))))

-- what is not None came by one of the tests
chosen : (b : Bool) (kind : PathKind) (o : Option PathKind) (k : PathKind) {P : Type 0} → cond b (Some kind) o ≡ Some k → (b ≡ true → P) → (o ≡ Some k → P) → P
chosen true kind o k e p q = p refl
chosen false kind o k e p q = q e

pub kind_no_zero : (text : List ℕ) (kind : PathKind) → kind_of text ≡ Some kind → has_no_zero text ≡ true
unfolding kind_of
kind_no_zero text kind e =
    long (nat_lt 128 (length text)) e
  where
    forms : kind_by_form text ≡ Some kind → has_no_zero text ≡ true
    forms e =
        chosen (is_under (codes "gno.land/r/") text) Realm _ kind e (under (codes "gno.land/r/") text refl) (λ e.
        chosen (is_under (codes "gno.land/p/") text) Pure _ kind e (under (codes "gno.land/p/") text refl) (λ e.
        chosen (is_run_path text) Run _ kind e (run_path text) (λ e.
        chosen (is_bundled text) Bundled None kind e (comes_with text) (λ e. absurd (none-some kind e)))))

    long : (b : Bool) → cond b None (kind_by_form text) ≡ Some kind → has_no_zero text ≡ true
    long true e = absurd (none-some kind e)
    long false e = forms e

pub path_no_zero : (text : List ℕ) (path : Path) → path_of text ≡ Some path → list_all (λ b. nat_lt 0 b) text ≡ true
path_no_zero text path e = held (kind_of text) refl e
  where
    held : (o : Option PathKind) → kind_of text ≡ o → option_map (λ (kind : PathKind). record { kind = kind; text = text }) o ≡ Some path → has_no_zero text ≡ true
    held None k e = absurd (none-some path e)
    held (Some kind) k e = kind_no_zero text kind k
