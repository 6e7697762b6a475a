-- A line that is written piece by piece.
use Rattle.std.proofs.Common.{◌≡◌, ℕ, ◌+◌, ◌<◌, List, [], ◌∷◌, ◌++◌, ap, ◌∙◌, refl, subst, sym, length, take, drop, get_or, arith}
use Rattle.std.specs.Prelude.{min, Option, Result, Ok, Err, OnOk, IfErr}
use Rattle.std.proofs.lemmas.List.{take-append-drop, take-append-le, take_all, take_min, take_more}
use Rattle.std.proofs.Math.Seq.{take-append-add}
use Rattle.hex.specs.Hex.{encode_lower, encode_with, lower_digits}
use Rattle.gno_port.specs.Streams.{Gained, with_more}
use Rattle.gno_port.specs.declared.sink.WriteFault.{WriteFault}
use Rattle.gno_port.proofs.Steps.{with_more-with_more}
use Rattle.gno_cmd.specs.Headline.{GainedFront}

abbrev told : Type 0
told = Option (List ℕ)

pub in_first : (old new : told) (a b : List ℕ) → GainedFront old new a → GainedFront old new (a ++ b)
in_first old new a b front =
    let n : ℕ = min front.0 (length a) in
    (n, front.1 ∙ ap (with_more old) (sym (take_min front.0 a) ∙ sym (take-append-le n a b (omega arith))))

pub joined : (old mid new : told) (a b : List ℕ) → Gained old mid a → Gained mid new b → Gained old new (a ++ b)
joined old mid new a b first rest =
    rest ∙ ap (λ m. with_more m b) first ∙ with_more-with_more old a b

pub ends : (result : Result (Unit {0}) WriteFault) (old mid new : told) (a b : List ℕ) → Gained old mid a → OnOk result (Gained mid new b) → OnOk result (Gained old new (a ++ b))
ends (Ok done) old mid new a b first rest = joined old mid new a b first rest
ends (Err fault) old mid new a b first rest = rest

pub behind_first : (old mid new : told) (a b : List ℕ) → Gained old mid a → GainedFront mid new b → GainedFront old new (a ++ b)
behind_first old mid new a b first rest =
    (length a + rest.0, joined old mid new a (take rest.0 b) first rest.1 ∙ ap (with_more old) (sym (take-append-add a b rest.0)))

pub whole : (old new : told) (a : List ℕ) → Gained old new a → GainedFront old new a
whole old new a gained = (length a, gained ∙ ap (with_more old) (sym (take_all (length a) a (omega arith))))

pub as_far : (result : Result (Unit {0}) WriteFault) (old new : told) (a : List ℕ) → OnOk result (Gained old new a) → IfErr result (λ f. (f.written < length a) × Gained old new (take f.written a)) → GainedFront old new a
as_far (Ok done) old new a ok err = whole old new a ok
as_far (Err fault) old new a ok err = (fault.written, err.1)

-- the hex digits of bytes, one behind the other

encode_with-append : (t a b : List ℕ) → encode_with t (a ++ b) ≡ encode_with t a ++ encode_with t b
unfolding encode_with
encode_with-append t [] b = refl
encode_with-append t (x ∷ a) b = rw (encode_with-append t a b) refl

pub encode_lower-nil : encode_lower [] ≡ []
unfolding encode_with
encode_lower-nil = refl

pub encode_lower-more : (bytes : List ℕ) (i : ℕ) → i < length bytes → encode_lower (take (i + 1) bytes) ≡ encode_lower (take i bytes) ++ encode_lower (get_or bytes i 0 ∷ [])
encode_lower-more bytes i below = ap encode_lower (take_more bytes i 0 below) ∙ encode_with-append lower_digits (take i bytes) (get_or bytes i 0 ∷ [])

-- the byte at a place was written in part
pub front_at : (old mid new : told) (bytes : List ℕ) (i : ℕ) → i < length bytes → Gained old mid (encode_lower (take i bytes)) → GainedFront mid new (encode_lower (get_or bytes i 0 ∷ [])) → GainedFront old new (encode_lower bytes)
front_at old mid new bytes i below first rest =
    let upto : GainedFront old new (encode_lower (take (i + 1) bytes)) = rw (encode_lower-more bytes i below) (behind_first old mid new _ _ first rest) in
    subst (λ (t : List ℕ). GainedFront old new t)
    (sym (encode_with-append lower_digits (take (i + 1) bytes) (drop (i + 1) bytes)) ∙ ap encode_lower (take-append-drop (i + 1) bytes))
    (in_first old new (encode_lower (take (i + 1) bytes)) (encode_lower (drop (i + 1) bytes)) upto)
