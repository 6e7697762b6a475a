-- A scan that has come to a place goes on.
use Rattle.std.proofs.Common.{◌≡◌, ◌∙◌, ◌≤◌, ◌<◌, ◌+◌, ℕ, suc, List, [], ◌∷◌, ◌++◌, append_assoc, ap, refl, sym, subst, arith, length, take, drop, length-append, length-take, length-drop}
use Rattle.std.specs.Prelude.{Bool, true, false, ◌==◌, ◌&&◌, if◌then◌else◌, Some, None, map}
use Rattle.std.proofs.lemmas.List.{append-nil, drop-drop, map-append, take-append-le, take-append-drop}
use Rattle.std.proofs.Math.ListN.{drop_of_length-le}
use Rattle.std.proofs.Math.Seq.{take-append-add}
use Rattle.gno_scan.specs.declared.kind.TokenKind.{TokenKind}
use Rattle.gno_scan.specs.declared.kind.TokenKind.TheVariants.{Semicolon}
use Rattle.gno_scan.specs.declared.piece.Piece.{Piece}
use Rattle.gno_scan.specs.declared.piece.Piece.TheVariants.{Token as Written, OtherNumber, LineComment, GeneralComment, Blank, LineEnd}
use Rattle.gno_scan.specs.declared.token.Pos.{Pos}
use Rattle.gno_scan.specs.declared.token.Token.{Token}
use Rattle.gno_scan.specs.Pieces.{BeginsOpen, BeginsStray, BeginsWith}
use Rattle.gno_scan.specs.Places.{behind, behind_byte, first_of, place_of}
use Rattle.gno_scan.specs.Scan.{EndsAt, HasScanned, IsNear, token_at}
use Rattle.gno_scan.specs.Tokens.{IsBetween, IsRight, IsWrong, Span, Tokens, TokensOf, closes_line, ends_line, first_place, inserted, to_line_feed, nothing, last_semicolon, passed, line_end, token, wrong, open_piece, stray, rune_escape, string_escape, rune_count, integer, other_number}
use Rattle.gno_scan.specs.Escapes.{IsBadEscape}

behind_more : (pos : Pos) (front rest : List ℕ) → behind pos (front ++ rest) ≡ behind (behind pos front) rest
behind_more pos [] rest = refl
behind_more pos (b ∷ bs) rest = behind_more (behind_byte pos b) bs rest

-- what stands behind a word at a place
pub record StandsAt (text : List ℕ) (at : ℕ) (word : List ℕ) : Type 0 where
  pub parts : drop at text ≡ word ++ drop (at + length word) text
  pub front : take (at + length word) text ≡ take at text ++ word
  pub within : at + length word ≤ length text

pub stands_at : (text : List ℕ) (at n : ℕ) → at ≤ length text → n ≤ length (drop at text) → StandsAt text at (take n (drop at text))
stands_at text at n begun fits =
    let size : length (take n (drop at text)) ≡ n = omega (arith, length-take n (drop at text), fits) in
    let here : length (take at text) ≡ at = omega (arith, length-take at text, begun) in
    let whole : take at text ++ drop at text ≡ text = take-append-drop at text in
    record {
      parts = sym (take-append-drop n (drop at text)) ∙ ap (λ r. take n (drop at text) ++ r) (drop-drop n at text ∙ ap (λ m. drop (at + m) text) (sym size));
      front = (λ i. take ((sym here) i + size i) ((sym whole) i)) ∙ take-append-add (take at text) (drop at text) n;
      within = omega (arith, size, fits, length-drop at text, begun);
    }

pub place_behind : (file at : ℕ) (text word : List ℕ) → StandsAt text at word → place_of file text (at + length word) ≡ behind (place_of file text at) word
place_behind file at text word stands = ap (behind (first_of file)) stands.front ∙ behind_more (first_of file) (take at text) word

line_either : (test : Bool) (x y : Pos) (n : ℕ) → x.line ≤ n → y.line ≤ n → (if test then x else y).line ≤ n
line_either true x y n a b = a
line_either false x y n a b = b

column_either : (test : Bool) (x y : Pos) (n : ℕ) → (1 ≤ x.column) × (x.column ≤ n) → (1 ≤ y.column) × (y.column ≤ n) → (1 ≤ (if test then x else y).column) × ((if test then x else y).column ≤ n)
column_either true x y n a b = a
column_either false x y n a b = b

more_lines : (pos : Pos) (bytes : List ℕ) → (behind pos bytes).line ≤ pos.line + length bytes
more_lines pos [] = omega arith
more_lines pos (b ∷ bs) = omega (arith, more_lines (behind_byte pos b) bs, line_either (b == 10) (record { file = pos.file; line = pos.line + 1; column = 1 }) (record { file = pos.file; line = pos.line; column = pos.column + 1 }) (pos.line + 1) (omega arith) (omega arith))

more_columns : (pos : Pos) (bytes : List ℕ) → 1 ≤ pos.column → (behind pos bytes).column ≤ pos.column + length bytes
more_columns pos [] from_one = omega arith
more_columns pos (b ∷ bs) from_one =
    let next = column_either (b == 10) (record { file = pos.file; line = pos.line + 1; column = 1 }) (record { file = pos.file; line = pos.line; column = pos.column + 1 }) (pos.column + 1) (omega arith, omega arith) (omega arith, omega arith) in
    omega (arith, more_columns (behind_byte pos b) bs next.0, next.1)

-- a place in a text is not far from its first
pub near : (file at : ℕ) (text : List ℕ) → at ≤ length text → ((place_of file text at).line ≤ at + 1) × ((place_of file text at).column ≤ at + 1)
near file at text within =
    let size : length (take at text) ≡ at = omega (arith, length-take at text, within) in
    (omega (arith, more_lines (first_of file) (take at text), size), omega (arith, more_columns (first_of file) (take at text) (omega arith), size))

-- the scan begins behind the byte order mark
pub begun : (file : ℕ) (text : List ℕ) → first_place text ≤ length text → HasScanned file text (first_place text) false [] (place_of file text (first_place text))
begun file text within = record {
  said = [];
  tokens_are = refl;
  goes_on = λ more fault goes. goes;
  pos_is = refl;
  within = within;
}

-- a piece that is no token is passed
pub passes : (file at : ℕ) (text word : List ℕ) (closed : Bool) (tokens : List Token) (pos : Pos) (piece : Piece) → HasScanned file text at closed tokens pos → StandsAt text at word →
    BeginsWith (drop at text) piece word → IsBetween piece → closed && ends_line piece word ≡ false → HasScanned file text (at + length word) closed tokens (behind pos word)
passes file at text word closed tokens pos piece come stands begins between open_line = record {
  said = come.said;
  tokens_are = come.tokens_are;
  goes_on = λ more fault goes. come.goes_on more fault (subst (λ (t : List ℕ). Tokens at closed t more fault) (sym stands.parts)
      (passed at closed piece word (drop (at + length word) text) more fault (subst (λ (t : List ℕ). BeginsWith t piece word) stands.parts begins) between open_line goes));
  pos_is = ap (λ p. behind p word) come.pos_is ∙ sym (place_behind file at text word stands);
  within = stands.within;
}

one_more : (file : ℕ) (text : List ℕ) (tokens : List Token) (said : List Span) (span : Span) → tokens ≡ map (token_at file text) said → tokens ++ token_at file text span ∷ [] ≡ map (token_at file text) (said ++ span ∷ [])
one_more file text tokens said span are = ap (λ ts. ts ++ token_at file text span ∷ []) are ∙ sym (map-append (token_at file text) said (span ∷ []))

-- a token is read
pub reads : (file at : ℕ) (text word : List ℕ) (closed : Bool) (tokens : List Token) (pos : Pos) (kind : TokenKind) → HasScanned file text at closed tokens pos → StandsAt text at word →
    BeginsWith (drop at text) (Written kind) word → IsRight (Written kind) word →
    HasScanned file text (at + length word) (closes_line kind) (tokens ++ (record { kind = kind; start = at; end = at + length word; pos = pos }) ∷ []) (behind pos word)
reads file at text word closed tokens pos kind come stands begins right =
    let span : Span = record { kind = kind; start = at; end = at + length word } in
    let here : record { kind = kind; start = at; end = at + length word; pos = pos } ≡ token_at file text span = ap (λ p. record { kind = kind; start = at; end = at + length word; pos = p }) come.pos_is in
    record {
      said = come.said ++ span ∷ [];
      tokens_are = ap (λ t. tokens ++ t ∷ []) here ∙ one_more file text tokens come.said span come.tokens_are;
      goes_on = λ more fault goes. subst (λ (s : List Span). TokensOf text s fault) (sym (append_assoc come.said (span ∷ []) more))
          (come.goes_on (span ∷ more) fault (subst (λ (t : List ℕ). Tokens at closed t (span ∷ more) fault) (sym stands.parts)
          (token at closed kind word (drop (at + length word) text) more fault (subst (λ (t : List ℕ). BeginsWith t (Written kind) word) stands.parts begins) right goes)));
      pos_is = ap (λ p. behind p word) come.pos_is ∙ sym (place_behind file at text word stands);
      within = stands.within;
    }

-- a front of a word that stands at a place
pub front_stands : (text : List ℕ) (at k : ℕ) (word : List ℕ) → StandsAt text at word → at ≤ length text → k ≤ length word → StandsAt text at (take k word)
front_stands text at k word stands begun fits =
    let same : take k (drop at text) ≡ take k word = ap (take k) stands.parts ∙ take-append-le k word (drop (at + length word) text) fits in
    let size = ap length stands.parts in
    subst (λ (w : List ℕ). StandsAt text at w) same (stands_at text at k begun (omega (arith, size, fits, length-append word (drop (at + length word) text))))

number_either : (test : Bool) (x y n : ℕ) → x ≤ n → y ≤ n → (if test then x else y) ≤ n
number_either true x y n a b = a
number_either false x y n a b = b

feed_within : (word : List ℕ) → to_line_feed word ≤ length word
feed_within [] = omega arith
feed_within (b ∷ bs) = number_either (b == 10) 0 (to_line_feed bs + 1) (suc (length bs)) (omega arith) (omega (arith, feed_within bs))

-- a line ends, and a semicolon is inserted at its end
pub inserts : (file at : ℕ) (text word : List ℕ) (tokens : List Token) (pos : Pos) (piece : Piece) → HasScanned file text at true tokens pos → StandsAt text at word →
    BeginsWith (drop at text) piece word → IsBetween piece → ends_line piece word ≡ true →
    HasScanned file text (at + length word) false (tokens ++ (record { kind = Semicolon; start = at + to_line_feed word; end = at + to_line_feed word; pos = behind pos (take (to_line_feed word) word) }) ∷ []) (behind pos word)
inserts file at text word tokens pos piece come stands begins between ends =
    let feed = at + to_line_feed word in
    let fits = feed_within word in
    let front = front_stands text at (to_line_feed word) word stands come.within fits in
    let size : length (take (to_line_feed word) word) ≡ to_line_feed word = omega (arith, length-take (to_line_feed word) word, fits) in
    let place : behind pos (take (to_line_feed word) word) ≡ place_of file text feed =
    ap (λ p. behind p (take (to_line_feed word) word)) come.pos_is ∙ sym (place_behind file at text (take (to_line_feed word) word) front) ∙ ap (λ n. place_of file text (at + n)) size in
    record {
      said = come.said ++ inserted feed ∷ [];
      tokens_are = ap (λ p. tokens ++ (record { kind = Semicolon; start = feed; end = feed; pos = p }) ∷ []) place ∙ one_more file text tokens come.said (inserted feed) come.tokens_are;
      goes_on = λ more fault goes. subst (λ (s : List Span). TokensOf text s fault) (sym (append_assoc come.said (inserted feed ∷ []) more))
          (come.goes_on (inserted feed ∷ more) fault (subst (λ (t : List ℕ). Tokens at true t (inserted feed ∷ more) fault) (sym stands.parts)
          (line_end at piece word (drop (at + length word) text) more fault (subst (λ (t : List ℕ). BeginsWith t piece word) stands.parts begins) between ends goes)));
      pos_is = ap (λ p. behind p word) come.pos_is ∙ sym (place_behind file at text word stands);
      within = stands.within;
    }

-- the text ends
pub all_read : (file at : ℕ) (text : List ℕ) (tokens : List Token) (pos : Pos) → HasScanned file text at false tokens pos → length text ≤ at →
    (spans : List Span) × TokensOf text spans None × (tokens ≡ map (token_at file text) spans)
all_read file at text tokens pos come over =
    let none : [] ≡ drop at text = sym (drop_of_length-le text over) in
    (come.said, subst (λ (s : List Span). TokensOf text s None) (append-nil come.said) (come.goes_on [] None (subst (λ (t : List ℕ). Tokens at false t [] None) none (nothing at))), come.tokens_are)

-- the text ends behind a token that closes its line
pub ends_closed : (file at : ℕ) (text : List ℕ) (tokens : List Token) (pos : Pos) → HasScanned file text at true tokens pos → length text ≤ at →
    (spans : List Span) × TokensOf text spans None × (tokens ++ (record { kind = Semicolon; start = at; end = at; pos = pos }) ∷ [] ≡ map (token_at file text) spans)
ends_closed file at text tokens pos come over =
    let none : [] ≡ drop at text = sym (drop_of_length-le text over) in (
      come.said ++ inserted at ∷ [],
      come.goes_on (inserted at ∷ []) None (subst (λ (t : List ℕ). Tokens at true t (inserted at ∷ []) None) none (last_semicolon at)),
      ap (λ p. tokens ++ (record { kind = Semicolon; start = at; end = at; pos = p }) ∷ []) come.pos_is ∙ one_more file text tokens come.said (inserted at) come.tokens_are,
    )

-- what is wrong with a piece
pub ends_wrong : (file at : ℕ) (text word : List ℕ) (closed : Bool) (tokens : List Token) (pos : Pos) (piece : Piece) (code offset : ℕ) → HasScanned file text at closed tokens pos → StandsAt text at word →
    BeginsWith (drop at text) piece word → IsWrong piece word code offset → offset ≤ length word → EndsAt file text code (at + offset) (behind pos (take offset word))
ends_wrong file at text word closed tokens pos piece code offset come stands begins is_wrong fits =
    let front = front_stands text at offset word stands come.within fits in
    let size : length (take offset word) ≡ offset = omega (arith, length-take offset word, fits) in
    record {
      spans = come.said ++ [];
      fault = come.goes_on [] _ (subst (λ (t : List ℕ). Tokens at closed t [] (Some (record { code = code; at = at + offset }))) (sym stands.parts)
          (wrong at closed piece word (drop (at + length word) text) code offset (subst (λ (t : List ℕ). BeginsWith t piece word) stands.parts begins) is_wrong));
      pos_is = ap (λ p. behind p (take offset word)) come.pos_is ∙ sym (place_behind file at text (take offset word) front) ∙ ap (λ n. place_of file text (at + n)) size;
    }

pub ends_open : (file at : ℕ) (text : List ℕ) (closed : Bool) (tokens : List Token) (pos : Pos) → HasScanned file text at closed tokens pos → BeginsOpen (drop at text) → EndsAt file text 3 at pos
ends_open file at text closed tokens pos come begins = record {
  spans = come.said ++ [];
  fault = come.goes_on [] _ (open_piece at closed (drop at text) begins);
  pos_is = come.pos_is;
}

stray_at : (at : ℕ) (closed : Bool) (text : List ℕ) → 0 < length text → BeginsStray text → Tokens at closed text [] (Some (record { code = 2; at = at }))
stray_at at closed [] some begins = absurd (omega (arith, some))
stray_at at closed (b ∷ bs) some begins = stray at closed b bs begins

pub ends_stray : (file at : ℕ) (text : List ℕ) (closed : Bool) (tokens : List Token) (pos : Pos) → HasScanned file text at closed tokens pos → at < length text → BeginsStray (drop at text) → EndsAt file text 2 at pos
ends_stray file at text closed tokens pos come more begins = record {
  spans = come.said ++ [];
  fault = come.goes_on [] _ (stray_at at closed (drop at text) (omega (arith, length-drop at text, more)) begins);
  pos_is = come.pos_is;
}

-- the place of a scan is not far from the first
pub near_pos : (file at : ℕ) (text : List ℕ) (closed : Bool) (tokens : List Token) (pos : Pos) → HasScanned file text at closed tokens pos → IsNear pos at
near_pos file at text closed tokens pos come =
    let it = near file at text come.within in
    subst (λ (p : Pos). IsNear p at) (sym come.pos_is) (record { line = it.0; column = it.1 })

-- a word that was cut off at a place stands there
pub word_stands : (text : List ℕ) (at : ℕ) (word : List ℕ) → at ≤ length text → word ≡ take (length word) (drop at text) → StandsAt text at word
word_stands text at word begun cut =
    let fits : length word ≤ length (drop at text) = omega (arith, ap length cut, length-take (length word) (drop at text)) in
    subst (λ (w : List ℕ). StandsAt text at w) (sym cut) (stands_at text at (length word) begun fits)

-- a piece that is right and no token stands between tokens
pub is_between : (piece : Piece) (word : List ℕ) → IsRight piece word → ((kind : TokenKind) → piece ≡ Written kind → ⊥) → IsBetween piece
is_between (Written kind) word right no_token = no_token kind refl
is_between OtherNumber word right no_token = right 6 0 (other_number word)
is_between LineComment word right no_token = tt
is_between GeneralComment word right no_token = tt
is_between Blank word right no_token = tt
is_between LineEnd word right no_token = tt

bad_within : (quote at : ℕ) (inside : List ℕ) → IsBadEscape quote inside at → at + 1 ≤ length (quote ∷ (inside ++ quote ∷ []))
bad_within quote at inside bad = omega (arith, bad.place, ap length bad.split, length-append bad.front (92 ∷ bad.rest), length-append inside (quote ∷ []))

-- what is wrong with a piece stands within it
pub offset_within : (piece : Piece) (word : List ℕ) (code offset : ℕ) → IsWrong piece word code offset → offset ≤ length word
offset_within _ _ _ _ (rune_escape inside at bad) = bad_within 39 at inside bad
offset_within _ _ _ _ (string_escape inside at bad) = bad_within 34 at inside bad
offset_within _ _ _ _ (rune_count inside parts no_one) = omega arith
offset_within _ _ _ _ (integer word no_value) = omega arith
offset_within _ _ _ _ (other_number word) = omega arith

-- a text that was read to its end has tokens
pub has_tokens : (file at : ℕ) (text : List ℕ) (closed : Bool) (tokens : List Token) (pos : Pos) → HasScanned file text at closed tokens pos → length text ≤ at → (spans : List Span) × TokensOf text spans None
has_tokens file at text true tokens pos come over = let it = ends_closed file at text tokens pos come over in (it.0, it.1)
has_tokens file at text false tokens pos come over = let it = all_read file at text tokens pos come over in (it.0, it.1)
