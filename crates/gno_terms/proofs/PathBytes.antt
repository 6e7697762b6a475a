-- The bytes of a path.
use Rattle.std.proofs.Common.{◌≡◌, ℕ, ◌-◌, List, [], ◌∷◌, ◌++◌, length, take, drop, refl, arith, ap, ◌∙◌, cond, Bool, true, false}
use Rattle.std.specs.Prelude.{nat_lt, nat_le, nat_eq, ◌==◌, ◌&&◌, ◌||◌, codes, Option, Some, None}
use Rattle.std.specs.List.{list_all, slice_split, onto_first, starts_with, ends_with}
use Rattle.std.specs.Str.{bytes_eq}
use Rattle.std.proofs.lemmas.Bool.{and_parts, and_from}
use Rattle.std.proofs.lemmas.Bool.Decides.{nat_tests, Decides-eqb}
use Rattle.std.proofs.lemmas.Option.{none-some}
use Rattle.std.proofs.lemmas.Slice.Eq.{bytes_eq-Decides, starts_is, ends_is}
use Rattle.gno_base.specs.declared.path.PathKind.{PathKind}
use Rattle.gno_base.specs.declared.path.PathKind.TheVariants.{Realm, Pure, Run, Bundled}
use Rattle.gno_base.specs.Callers.{is_small_letter, is_caller_byte, is_caller}
use Rattle.gno_base.specs.Paths.{is_name_byte, is_name, are_names, is_under, is_run, is_run_path, is_bundled, kind_by_form, kind_of}
use Rattle.gno_terms.specs.Lawful.{IsPath}
use Rattle.gno_terms.proofs.Words.{begins, weaken, all-append, begins-append}
use Rattle.gno_terms.proofs.Bytes.{in_path, small-path, caller-path, part-path}

abbrev bytes : List ℕ → Bool
bytes = list_all in_path

-- a small letter, then bytes of a path
abbrev fits : List ℕ → Bool
fits text = begins is_small_letter text && bytes text

name : (part : List ℕ) → is_name part ≡ true → bytes part ≡ true
name [] e = refl
name (b ∷ bs) e =
    let t = and_parts (is_small_letter b) (list_all is_name_byte bs) e in
    and_from (in_path b) (bytes bs) (small-path b t.0) (weaken is_name_byte in_path part-path bs t.1)

all_names : (parts : List (List ℕ)) → list_all is_name parts ≡ true → list_all bytes parts ≡ true
all_names [] e = refl
all_names (part ∷ parts) e =
    let t = and_parts (is_name part) (list_all is_name parts) e in and_from (bytes part) (list_all bytes parts) (name part t.0) (all_names parts t.1)

first : (b : ℕ) (parts : List (List ℕ)) → list_all bytes (onto_first b parts) ≡ true → (in_path b ≡ true) × (list_all bytes parts ≡ true)
first b [] e = ((and_parts (in_path b) true (and_parts (in_path b && true) true e).0).0, refl)
first b (part ∷ parts) e =
    let t = and_parts (in_path b && bytes part) (list_all bytes parts) e in
    let u = and_parts (in_path b) (bytes part) t.0 in
    (u.0, and_from (bytes part) (list_all bytes parts) u.1 t.1)

abbrev split : List ℕ → List (List ℕ)
split text = slice_split (λ b. b == 47) text

split_at : (slash : Bool) (b : ℕ) (parts : List (List ℕ)) → (slash ≡ true → in_path b ≡ true) → list_all bytes (cond slash ([] ∷ parts) (onto_first b parts)) ≡ true →
    (in_path b ≡ true) × (list_all bytes parts ≡ true)
split_at true b parts p e = (p refl, e)
split_at false b parts p e = first b parts e

-- what stands between slashes has these bytes, and so has the whole
parts : (text : List ℕ) → list_all bytes (split text) ≡ true → bytes text ≡ true
parts [] e = refl
parts (b ∷ bs) e =
    let t = split_at (b == 47) b (split bs) (λ s. grind (arith, nat_tests)) e in
    and_from (in_path b) (bytes bs) t.0 (parts bs t.1)

-- a fitting front before such bytes
fronted : (front text : List ℕ) → fits front ≡ true → bytes text ≡ true → fits (front ++ text) ≡ true
fronted front text p e =
    let t = and_parts (begins is_small_letter front) (bytes front) p in
    and_from (begins is_small_letter (front ++ text)) (bytes (front ++ text)) (begins-append is_small_letter front text t.0) (all-append in_path front text t.1 e)

under : (front text : List ℕ) → fits front ≡ true → is_under front text ≡ true → fits text ≡ true
under front text p e =
    let t = and_parts (starts_with nat_eq text front) (are_names (drop (length front) text)) e in
    let s = (starts_is Decides-eqb text front (starts_with nat_eq text front) refl).0 t.0 in
    ap fits s ∙ fronted front (drop (length front) text) p (parts (drop (length front) text) (all_names (split (drop (length front) text)) t.1))

caller : (text : List ℕ) → is_caller text ≡ true → bytes text ≡ true
caller text e =
    let few = nat_le (length text) 64 && list_all is_caller_byte text in
    weaken is_caller_byte in_path caller-path text (and_parts (nat_le (length text) 64) (list_all is_caller_byte text) (and_parts (nat_le 1 (length text)) few e).1).1

run : (text : List ℕ) → is_run text ≡ true → bytes text ≡ true
run text e =
    let t = and_parts (ends_with nat_eq text (codes "/run")) (is_caller (take (length text - 4) text)) e in
    let s = (ends_is Decides-eqb text (codes "/run") (ends_with nat_eq text (codes "/run")) refl).0 t.0 in
    ap bytes s ∙ all-append in_path (take (length text - 4) text) (codes "/run") (caller (take (length text - 4) text) t.1) refl

run_path : (text : List ℕ) → is_run_path text ≡ true → fits text ≡ true
run_path text e =
    let t = and_parts (starts_with nat_eq text (codes "gno.land/e/")) (is_run (drop 11 text)) e in
    let s = (starts_is Decides-eqb text (codes "gno.land/e/") (starts_with nat_eq text (codes "gno.land/e/")) refl).0 t.0 in
    ap fits s ∙ fronted (codes "gno.land/e/") (drop 11 text) refl (run (drop 11 text) t.1)

either : (x y : Bool) {P : Type 0} → (x || y) ≡ true → (x ≡ true → P) → (y ≡ true → P) → P
either true y e p q = p refl
either false y e p q = q e

is_text : (text word : List ℕ) → fits word ≡ true → bytes_eq text word ≡ true → fits text ≡ true
is_text text word p e = ap fits ((bytes_eq-Decides text word).0 e) ∙ p

comes_with : (text : List ℕ) → is_bundled text ≡ true → fits text ≡ true
comes_with text e =
    either _ _ e (is_text text (codes "chain") refl) (λ e. either _ _ e (is_text text (codes "chain/runtime") refl) (λ e. either _ _ e (is_text text (codes "crypto/sha256") refl)
    (λ e. either _ _ e (is_text text (codes "errors") refl) (λ e. either _ _ e (is_text text (codes "strconv") refl) (is_text text (codes "testing") refl)))))

-- what is not None came by one of the tests
chosen : (b : Bool) (kind : PathKind) (o : Option PathKind) (k : PathKind) {P : Type 0} → cond b (Some kind) o ≡ Some k → (b ≡ true → P) → (o ≡ Some k → P) → P
chosen true kind o k e p q = p refl
chosen false kind o k e p q = q e

path_fits : (text : List ℕ) → IsPath text → fits text ≡ true
unfolding kind_of
path_fits text path = long (nat_lt 128 (length text)) path.1
  where
    forms : kind_by_form text ≡ Some path.0 → fits text ≡ true
    forms e =
        chosen (is_under (codes "gno.land/r/") text) Realm _ path.0 e (under (codes "gno.land/r/") text refl) (λ e.
        chosen (is_under (codes "gno.land/p/") text) Pure _ path.0 e (under (codes "gno.land/p/") text refl) (λ e.
        chosen (is_run_path text) Run _ path.0 e (run_path text) (λ e.
        chosen (is_bundled text) Bundled None path.0 e (comes_with text) (λ e. absurd (none-some path.0 e)))))

    long : (b : Bool) → cond b None (kind_by_form text) ≡ Some path.0 → fits text ≡ true
    long true e = absurd (none-some path.0 e)
    long false e = forms e

pub path_begins : (text : List ℕ) → IsPath text → begins is_small_letter text ≡ true
path_begins text path = (and_parts (begins is_small_letter text) (bytes text) (path_fits text path)).0

pub path_bytes : (text : List ℕ) → IsPath text → list_all in_path text ≡ true
path_bytes text path = (and_parts (begins is_small_letter text) (bytes text) (path_fits text path)).1
