-- A text has one list of tokens, and at most one fault of its tokens.
use Rattle.std.proofs.Common.{◌≡◌, ◌∙◌, ◌≤◌, ◌<◌, ◌+◌, ℕ, zero, suc, List, [], ◌∷◌, ◌++◌, ap, refl, sym, subst, arith, length, length-append, take, drop}
use Rattle.std.proofs.lemmas.List.{append_cancel_left}
use Rattle.std.specs.Prelude.{Bool, true, false, ◌&&◌, Option, Some, None, if◌then◌else◌}
use Rattle.gno_scan.specs.declared.kind.TokenKind.{TokenKind}
use Rattle.gno_scan.specs.declared.piece.Piece.{Piece}
use Rattle.gno_scan.specs.declared.piece.Piece.TheVariants.{Token as Written}
use Rattle.gno_scan.specs.Pieces.{BeginsOpen, BeginsStray, BeginsWith, IsPiece, comment, rune, string, raw}
use Rattle.gno_scan.specs.Tokens.{Fault, IsBetween, IsRight, IsWrong, Span, Tokens, TokensOf, closes_line, ends_line, first_place, inserted, to_line_feed, nothing, last_semicolon, passed, line_end, token, wrong, open_piece, stray, rune_escape, string_escape, rune_count, integer, other_number}
use Rattle.gno_scan.proofs.Fronts.{take_front}
use Rattle.gno_scan.proofs.OneWrong.{one_wrong}

-- how the tokens go on behind a piece
data Goes (at : ℕ) (closed : Bool) (piece : Piece) (word rest : List ℕ) (spans : List Span) (fault : Option Fault) : Type 0 where
  passes : IsBetween piece → closed && ends_line piece word ≡ false → Tokens (at + length word) closed rest spans fault → Goes at closed piece word rest spans fault
  ends : (more : List Span) → IsBetween piece → closed ≡ true → ends_line piece word ≡ true → spans ≡ inserted (at + to_line_feed word) ∷ more → Tokens (at + length word) false rest more fault → Goes at closed piece word rest spans fault
  reads : (kind : TokenKind) (more : List Span) → piece ≡ Written kind → IsRight piece word → spans ≡ (record { kind = kind; start = at; end = at + length word }) ∷ more → Tokens (at + length word) (closes_line kind) rest more fault →
      Goes at closed piece word rest spans fault
  fails : (code offset : ℕ) → IsWrong piece word code offset → spans ≡ [] → fault ≡ Some (record { code = code; at = at + offset }) → Goes at closed piece word rest spans fault

-- what stands first in a text
data Front (at : ℕ) (closed : Bool) (text : List ℕ) (spans : List Span) (fault : Option Fault) : Type 0 where
  at_end : text ≡ [] → spans ≡ (if closed then inserted at ∷ [] else []) → fault ≡ None → Front at closed text spans fault
  at_piece : (piece : Piece) (word rest : List ℕ) → text ≡ word ++ rest → BeginsWith text piece word → Goes at closed piece word rest spans fault → Front at closed text spans fault
  at_open : BeginsOpen text → spans ≡ [] → fault ≡ Some (record { code = 3; at = at }) → Front at closed text spans fault
  at_stray : (b : ℕ) (rest : List ℕ) → text ≡ b ∷ rest → BeginsStray text → spans ≡ [] → fault ≡ Some (record { code = 2; at = at }) → Front at closed text spans fault

front : (at : ℕ) (closed : Bool) (text : List ℕ) (spans : List Span) (fault : Option Fault) → Tokens at closed text spans fault → Front at closed text spans fault
front _ _ _ _ _ (nothing at) = at_end refl refl refl
front _ _ _ _ _ (last_semicolon at) = at_end refl refl refl
front _ _ _ _ _ (passed at closed piece word rest spans fault begins between open_line goes) = at_piece piece word rest refl begins (passes between open_line goes)
front _ _ _ _ _ (line_end at piece word rest spans fault begins between over goes) = at_piece piece word rest refl begins (ends spans between refl over refl goes)
front _ _ _ _ _ (token at closed kind word rest spans fault begins right goes) = at_piece (Written kind) word rest refl begins (reads kind spans refl right refl goes)
front _ _ _ _ _ (wrong at closed piece word rest code offset begins is_wrong) = at_piece piece word rest refl begins (fails code offset is_wrong refl refl)
front _ _ _ _ _ (open_piece at closed text begins) = at_open begins refl refl
front _ _ _ _ _ (stray at closed b rest begins) = at_stray b rest refl begins refl refl

-- two answers of one text
abbrev Same : List Span → List Span → Option Fault → Option Fault → Type 0
Same spans spans' fault fault' = (spans ≡ spans') × (fault ≡ fault')

no_between : (piece : Piece) (word : List ℕ) (code at : ℕ) → IsBetween piece → IsWrong piece word code at → ⊥
no_between _ _ _ _ between (rune_escape inside at bad) = between
no_between _ _ _ _ between (string_escape inside at bad) = between
no_between _ _ _ _ between (rune_count inside parts other) = between
no_between _ _ _ _ between (integer word no_value) = between
no_between _ _ _ _ between (other_number word) = between

no_token : (piece : Piece) (kind : TokenKind) → IsBetween piece → piece ≡ Written kind → ⊥
no_token piece kind between is = subst IsBetween is between

same_kind : (kind other : TokenKind) → Written kind ≡ Written other → kind ≡ other
same_kind kind other e = cc

both_ways : (closed over : Bool) → closed && over ≡ false → closed ≡ true → over ≡ true → ⊥
both_ways true true none c e = cc
both_ways true false none c e = cc
both_ways false over none c e = cc

-- what goes on behind one piece goes on in one way, if the rest does
same_goes : (at : ℕ) (closed : Bool) (piece : Piece) (word rest : List ℕ) (spans spans' : List Span) (fault fault' : Option Fault) →
    ((place : ℕ) (flag : Bool) (more more' : List Span) (f f' : Option Fault) → Tokens place flag rest more f → Tokens place flag rest more' f' → Same more more' f f') →
    Goes at closed piece word rest spans fault → Goes at closed piece word rest spans' fault' → Same spans spans' fault fault'
same_goes at closed piece word rest spans spans' fault fault' one (passes between open_line goes) (passes between' open_line' goes') = one _ _ _ _ _ _ goes goes'
same_goes at closed piece word rest spans spans' fault fault' one (passes between open_line goes) (ends more between' is_closed over is goes') = absurd (both_ways _ _ open_line is_closed over)
same_goes at closed piece word rest spans spans' fault fault' one (passes between open_line goes) (reads kind more piece_is right is goes') = absurd (no_token piece kind between piece_is)
same_goes at closed piece word rest spans spans' fault fault' one (passes between open_line goes) (fails code offset is_wrong is fault_is) = absurd (no_between piece word code offset between is_wrong)
same_goes at closed piece word rest spans spans' fault fault' one (ends more between is_closed over is goes) (passes between' open_line goes') = absurd (both_ways _ _ open_line is_closed over)
same_goes at closed piece word rest spans spans' fault fault' one (ends more between is_closed over is goes) (ends more' between' is_closed' over' is' goes') =
    let same = one _ _ _ _ _ _ goes goes' in
    (is ∙ ap (λ m. inserted (at + to_line_feed word) ∷ m) same.0 ∙ sym is', same.1)
same_goes at closed piece word rest spans spans' fault fault' one (ends more between is_closed over is goes) (reads kind more' piece_is right is' goes') = absurd (no_token piece kind between piece_is)
same_goes at closed piece word rest spans spans' fault fault' one (ends more between is_closed over is goes) (fails code offset is_wrong is' fault_is) = absurd (no_between piece word code offset between is_wrong)
same_goes at closed piece word rest spans spans' fault fault' one (reads kind more piece_is right is goes) (passes between open_line goes') = absurd (no_token piece kind between piece_is)
same_goes at closed piece word rest spans spans' fault fault' one (reads kind more piece_is right is goes) (ends more' between is_closed over is' goes') = absurd (no_token piece kind between piece_is)
same_goes at closed piece word rest spans spans' fault fault' one (reads kind more piece_is right is goes) (reads kind' more' piece_is' right' is' goes') =
    let kinds = same_kind kind' kind (sym piece_is' ∙ piece_is) in
    let same = one _ _ _ _ _ _ goes (subst (λ (k : TokenKind). Tokens (at + length word) (closes_line k) rest more' fault') kinds goes') in
    (is ∙ (λ i. (record { kind = (sym kinds) i; start = at; end = at + length word }) ∷ (same.0 i)) ∙ sym is', same.1)
same_goes at closed piece word rest spans spans' fault fault' one (reads kind more piece_is right is goes) (fails code offset is_wrong is' fault_is) = absurd (right code offset is_wrong)
same_goes at closed piece word rest spans spans' fault fault' one (fails code offset is_wrong is fault_is) (passes between open_line goes') = absurd (no_between piece word code offset between is_wrong)
same_goes at closed piece word rest spans spans' fault fault' one (fails code offset is_wrong is fault_is) (ends more' between is_closed over is' goes') = absurd (no_between piece word code offset between is_wrong)
same_goes at closed piece word rest spans spans' fault fault' one (fails code offset is_wrong is fault_is) (reads kind more piece_is right is' goes') = absurd (right code offset is_wrong)
same_goes at closed piece word rest spans spans' fault fault' one (fails code offset is_wrong is fault_is) (fails code' offset' is_wrong' is' fault_is') =
    let same = one_wrong piece word code offset code' offset' is_wrong is_wrong' in
    (is ∙ sym is', fault_is ∙ (λ i. Some (record { code = same.0 i; at = at + same.1 i })) ∙ sym fault_is')

same_word : (text word other : List ℕ) (piece piece' : Piece) → BeginsWith text piece word → BeginsWith text piece' other → word ≡ other
same_word text word other piece piece' begins begins' =
    let size : length word ≡ length other = omega (arith, begins.longest.longest other (piece', begins'.is_piece) begins'.longest.begins, begins'.longest.longest word (piece, begins.is_piece) begins.longest.begins) in
    sym (take_front word begins.longest.begins.0) ∙ (λ i. take (size i) ((sym begins.longest.begins.1 ∙ begins'.longest.begins.1) i)) ∙ take_front other begins'.longest.begins.0

some_open : (text : List ℕ) → BeginsOpen text → 0 < length text
some_open _ (comment rest none) = omega arith
some_open _ (rune rest none) = omega arith
some_open _ (string rest none) = omega arith
some_open _ (raw rest none) = omega arith

module _ (one_piece : (piece other : Piece) (word : List ℕ) → IsPiece piece word → IsPiece other word → piece ≡ other) (not_empty : (piece : Piece) (word : List ℕ) → IsPiece piece word → 0 < length word) where
  -- a text that is over begins with nothing
  over_or_piece : (text word rest : List ℕ) (piece : Piece) → text ≡ [] → text ≡ word ++ rest → BeginsWith text piece word → ⊥
  over_or_piece text word rest piece empty parts begins = omega (arith, ap length empty, ap length parts, length-append word rest, not_empty piece word begins.is_piece)

  same_piece : (at : ℕ) (closed : Bool) (text word word' rest rest' : List ℕ) (piece piece' : Piece) (spans spans' : List Span) (fault fault' : Option Fault) →
      ((place : ℕ) (flag : Bool) (shorter : List ℕ) (more more' : List Span) (f f' : Option Fault) → length shorter < length text → Tokens place flag shorter more f → Tokens place flag shorter more' f' → Same more more' f f') →
      text ≡ word ++ rest → text ≡ word' ++ rest' → BeginsWith text piece word → BeginsWith text piece' word' → Goes at closed piece word rest spans fault → Goes at closed piece' word' rest' spans' fault' → Same spans spans' fault fault'
  same_piece at closed text word word' rest rest' piece piece' spans spans' fault fault' one parts parts' begins begins' goes goes' =
      let words : word' ≡ word = sym (same_word text word word' piece piece' begins begins') in
      let rests : rest' ≡ rest = append_cancel_left word rest' rest (ap (λ w. w ++ rest') (sym words) ∙ sym parts' ∙ parts) in
      let pieces : piece' ≡ piece = one_piece piece' piece word (subst (λ (w : List ℕ). IsPiece piece' w) words begins'.is_piece) begins.is_piece in
      let shorter : length rest < length text = omega (arith, ap length parts, length-append word rest, not_empty piece word begins.is_piece) in
      let moved : Goes at closed piece word rest spans' fault' =
      subst (λ (p : Piece). Goes at closed p word rest spans' fault') pieces (subst (λ (r : List ℕ). Goes at closed piece' word r spans' fault') rests (subst (λ (w : List ℕ). Goes at closed piece' w rest' spans' fault') words goes')) in
      same_goes at closed piece word rest spans spans' fault fault' (λ place flag more more' f f' t t'. one place flag rest more more' f f' shorter t t') goes moved

  same_front : (at : ℕ) (closed : Bool) (text : List ℕ) (spans spans' : List Span) (fault fault' : Option Fault) →
      ((place : ℕ) (flag : Bool) (shorter : List ℕ) (more more' : List Span) (f f' : Option Fault) → length shorter < length text → Tokens place flag shorter more f → Tokens place flag shorter more' f' → Same more more' f f') →
      Front at closed text spans fault → Front at closed text spans' fault' → Same spans spans' fault fault'
  same_front at closed text spans spans' fault fault' one (at_end empty is fault_is) (at_end empty' is' fault_is') = (is ∙ sym is', fault_is ∙ sym fault_is')
  same_front at closed text spans spans' fault fault' one (at_end empty is fault_is) (at_piece piece word rest parts begins goes) = absurd (over_or_piece text word rest piece empty parts begins)
  same_front at closed text spans spans' fault fault' one (at_end empty is fault_is) (at_open begins is' fault_is') = absurd (omega (arith, ap length empty, some_open text begins))
  same_front at closed text spans spans' fault fault' one (at_end empty is fault_is) (at_stray b rest parts begins is' fault_is') = absurd (omega (arith, ap length empty, ap length parts))
  same_front at closed text spans spans' fault fault' one (at_piece piece word rest parts begins goes) (at_end empty is fault_is) = absurd (over_or_piece text word rest piece empty parts begins)
  same_front at closed text spans spans' fault fault' one (at_piece piece word rest parts begins goes) (at_piece piece' word' rest' parts' begins' goes') =
      same_piece at closed text word word' rest rest' piece piece' spans spans' fault fault' one parts parts' begins begins' goes goes'
  same_front at closed text spans spans' fault fault' one (at_piece piece word rest parts begins goes) (at_open open_begins is fault_is) = absurd (begins.not_open open_begins)
  same_front at closed text spans spans' fault fault' one (at_piece piece word rest parts begins goes) (at_stray b more parts' stray_begins is fault_is) = absurd (stray_begins.no_piece word (piece, begins.is_piece) begins.longest.begins)
  same_front at closed text spans spans' fault fault' one (at_open begins is fault_is) (at_end empty is' fault_is') = absurd (omega (arith, ap length empty, some_open text begins))
  same_front at closed text spans spans' fault fault' one (at_open open_begins is fault_is) (at_piece piece word rest parts begins goes) = absurd (begins.not_open open_begins)
  same_front at closed text spans spans' fault fault' one (at_open begins is fault_is) (at_open begins' is' fault_is') = (is ∙ sym is', fault_is ∙ sym fault_is')
  same_front at closed text spans spans' fault fault' one (at_open begins is fault_is) (at_stray b rest parts stray_begins is' fault_is') = absurd (stray_begins.not_open begins)
  same_front at closed text spans spans' fault fault' one (at_stray b rest parts begins is fault_is) (at_end empty is' fault_is') = absurd (omega (arith, ap length empty, ap length parts))
  same_front at closed text spans spans' fault fault' one (at_stray b more parts stray_begins is fault_is) (at_piece piece word rest parts' begins goes) = absurd (stray_begins.no_piece word (piece, begins.is_piece) begins.longest.begins)
  same_front at closed text spans spans' fault fault' one (at_stray b rest parts stray_begins is fault_is) (at_open begins is' fault_is') = absurd (stray_begins.not_open begins)
  same_front at closed text spans spans' fault fault' one (at_stray b rest parts begins is fault_is) (at_stray b' rest' parts' begins' is' fault_is') = (is ∙ sym is', fault_is ∙ sym fault_is')

  one_from : (most at : ℕ) (closed : Bool) (text : List ℕ) (spans spans' : List Span) (fault fault' : Option Fault) → length text ≤ most → Tokens at closed text spans fault → Tokens at closed text spans' fault' → Same spans spans' fault fault'
  one_from zero at closed text spans spans' fault fault' small tokens tokens' =
      same_front at closed text spans spans' fault fault' (λ place flag rest more more' f f' lt t t'. absurd (omega (arith, lt, small))) (front at closed text spans fault tokens) (front at closed text spans' fault' tokens')
  one_from (suc most) at closed text spans spans' fault fault' small tokens tokens' =
      same_front at closed text spans spans' fault fault' (λ place flag rest more more' f f' lt t t'. one_from most place flag rest more more' f f' (omega (arith, lt, small)) t t') (front at closed text spans fault tokens) (front at closed text spans' fault' tokens')

  pub one_tokens : (text : List ℕ) (spans spans' : List Span) (fault fault' : Option Fault) → TokensOf text spans fault → TokensOf text spans' fault' → (spans ≡ spans') × (fault ≡ fault')
  one_tokens text spans spans' fault fault' tokens tokens' =
      let rest = drop (first_place text) text in
      one_from (length rest) (first_place text) false rest spans spans' fault fault' (omega arith) tokens tokens'
