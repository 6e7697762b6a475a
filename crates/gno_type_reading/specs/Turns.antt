-- What the bytes of a type's text say, one part after the other. Of a text that no type has this says anything.
use Rattle.std.specs.Prelude.{ℕ, ◌+◌, ◌-◌, ◌*◌, ◌^◌, List, [], ◌∷◌, ◌++◌, drop, take, codes, Bool, true, false, ◌==◌, ◌&&◌, ◌||◌, nat_le, nat_lt, if◌then◌else◌, Option, Some, None}
use Rattle.std.specs.Char.{is_ascii_alphabetic, is_ascii_digit}
use Rattle.std.specs.List.{list_all, prefix_len}
use Rattle.std.specs.Str.{bytes_eq}
use Rattle.gno_base.specs.Callers.{is_digit}
use Rattle.gno_base.specs.declared.kind.Kind.TheVariants as k
use Rattle.gno_terms.specs.declared.term.TermOf.TheVariants as t
use Rattle.gno_terms.specs.declared.term.FieldOf.{FieldOf}
use Rattle.gno_terms.specs.declared.term.MethodOf.{MethodOf}
use Rattle.gno_type_reading.specs.declared.frame.Member.{Member}
use Rattle.gno_type_reading.specs.declared.frame.FrameOf.{FrameOf}
use Rattle.gno_type_reading.specs.declared.frame.FrameOf.TheVariants as f
use Rattle.gno_type_reading.specs.declared.frame.ActionOf.{ActionOf}
use Rattle.gno_type_reading.specs.declared.frame.ActionOf.TheVariants as a

-- of a name: ASCII letters and digits, `_`, and each byte of a wider character
abbrev pub in_name : ℕ → Bool
in_name b = nat_le 128 b || (is_ascii_alphabetic b || (is_ascii_digit b || b == 95))

-- of what stands in front of the marks in a type's text
abbrev pub in_word : ℕ → Bool
in_word b = (in_name b || (b == 46 || b == 47)) || b == 35

abbrev pub begins_with : ℕ → List ℕ → Bool
begins_with c [] = false
begins_with c (b ∷ bs) = b == c

-- the word at the front, and what stands behind it
abbrev pub word_at : List ℕ → List ℕ
word_at text = take (prefix_len in_word text) text

abbrev pub behind_word : List ℕ → List ℕ
behind_word text = drop (prefix_len in_word text) text

abbrev pub digit_fits : ℕ → ℕ → Bool
digit_fits n d = is_digit d && nat_lt (10 * n + (d - 48)) (2 ^ 64)

-- the number that the digits behind those of n spell
abbrev pub number_after : ℕ → List ℕ → Option ℕ
number_after n [] = Some n
number_after n (d ∷ ds) = if digit_fits n d then number_after (10 * n + (d - 48)) ds else None

-- what stands on both sides of the last such byte
pub record Halves : Type 0 where
  pub front : List ℕ
  pub back : List ℕ

-- what stands before a byte, and behind it
abbrev pub halves_at : List ℕ → ℕ → Halves
halves_at text at = record { front = take at text; back = drop (at + 1) text }

abbrev pub further : ℕ → Option Halves → Option Halves
further b None = None
further b (Some halves) = Some (record { front = b ∷ halves.front; back = halves.back })

abbrev pub cut_here : ℕ → ℕ → List ℕ → Option Halves → Option Halves
cut_here c b bs (Some halves) = Some halves
cut_here c b bs None = if b == c then Some (record { front = []; back = bs }) else None

abbrev pub cut : ℕ → List ℕ → Option Halves
cut c [] = None
cut c (b ∷ bs) = cut_here c b bs (further b (cut c bs))

abbrev pub member_by : List ℕ → Option Halves → Member
member_by word None = record { name = word; «package» = [] }
member_by word (Some halves) = record { name = halves.back; «package» = halves.front }

abbrev pub member : List ℕ → Member
member word = member_by word (cut 46 word)

-- what is said, and what is left
pub record Turn (A : Type 0) : Type 0 where
  pub action : ActionOf A
  pub rest : List ℕ

abbrev pub turn : {A : Type 0} → ActionOf A → List ℕ → Turn A
turn action rest = record { action = action; rest = rest }

abbrev pub numbered : {A : Type 0} → Member → Option ℕ → ActionOf A
numbered m None = a.Refused
numbered m (Some local) = a.Made (t.Defined m.«package» m.name local)

abbrev pub defined_by : {A : Type 0} → List ℕ → Option Halves → ActionOf A
defined_by word None = numbered (member word) (Some 0)
defined_by word (Some halves) = numbered (member halves.front) (number_after 0 halves.back)

abbrev pub defined : {A : Type 0} → List ℕ → ActionOf A
defined word = defined_by word (cut 35 word)

abbrev pub predeclared : {A : Type 0} → List ℕ → ActionOf A
predeclared word =
    if bytes_eq word (codes "bool") then a.Made (t.Basic k.Bool) else (if bytes_eq word (codes "string") then a.Made (t.Basic k.Text) else (if bytes_eq word (codes "int") then a.Made (t.Basic k.Int)
    else (if bytes_eq word (codes "int8") then a.Made (t.Basic k.Int8) else (if bytes_eq word (codes "int16") then a.Made (t.Basic k.Int16) else (if bytes_eq word (codes "int32") then a.Made (t.Basic k.Int32)
    else (if bytes_eq word (codes "int64") then a.Made (t.Basic k.Int64) else (if bytes_eq word (codes "uint") then a.Made (t.Basic k.Uint) else (if bytes_eq word (codes "uint8") then a.Made (t.Basic k.Uint8)
    else (if bytes_eq word (codes "uint16") then a.Made (t.Basic k.Uint16) else (if bytes_eq word (codes "uint32") then a.Made (t.Basic k.Uint32) else (if bytes_eq word (codes "uint64") then a.Made (t.Basic k.Uint64)
    else (if bytes_eq word (codes "error") then a.Made t.Error else (if bytes_eq word (codes "realm") then a.Made t.Realm else a.Refused)))))))))))))

-- behind the parameters of a function
abbrev pub results : {A : Type 0} → List A → Bool → List ℕ → Turn A
results ps variadic text = if begins_with 32 text then (if begins_with 40 (drop 1 text) then turn (a.Opened (f.Results ps variadic [])) (drop 2 text) else turn (a.Opened (f.Result ps variadic)) (drop 1 text))
    else turn (a.Made (t.Function ps variadic [])) text

-- at a parameter or the closing parenthesis
abbrev pub params : {A : Type 0} → List A → List ℕ → Turn A
params ps text = if begins_with 41 text then results ps false (drop 1 text) else turn (a.Opened (f.Params ps (begins_with 46 text))) text

abbrev pub field : {A : Type 0} → List (FieldOf A) → Bool → List ℕ → Turn A
field fs embedded text = turn (a.Opened (f.Field fs (member (word_at text)) embedded)) (drop 1 (behind_word text))

-- at a field or the closing brace
abbrev pub fields : {A : Type 0} → List (FieldOf A) → List ℕ → Turn A
fields fs text = if begins_with 125 text then turn (a.Made (t.Struct fs)) (drop 1 text) else (if begins_with 33 text then field fs true (drop 1 text) else field fs false text)

-- at a method or the closing brace
abbrev pub methods : {A : Type 0} → List (MethodOf A) → List ℕ → Turn A
methods ms text = if begins_with 125 text then turn (a.Made (t.Interface ms)) (drop 1 text) else turn (a.Opened (f.Method ms (member (word_at text)))) (behind_word text)

abbrev pub sized : {A : Type 0} → Option ℕ → List ℕ → Turn A
sized None text = turn a.Refused text
sized (Some n) text = turn (a.Opened (f.Array n)) text

-- behind `[`
abbrev pub bracketed : {A : Type 0} → List ℕ → Turn A
bracketed text = if begins_with 93 text then turn (a.Opened f.Slice) (drop 1 text) else sized (number_after 0 (word_at text)) (drop 1 (behind_word text))

abbrev pub marked : {A : Type 0} → List ℕ → Turn A
marked text = if begins_with 42 text then turn (a.Opened f.Pointer) (drop 1 text) else (if begins_with 91 text then bracketed (drop 1 text)
    else (if begins_with 40 text then params [] (drop 1 text) else turn a.Refused text))

-- behind a word that has no point
abbrev pub worded : {A : Type 0} → List ℕ → List ℕ → Turn A
worded word text = if bytes_eq word (codes "map") then turn (a.Opened f.Key) (drop 1 text) else (if bytes_eq word (codes "func") then params [] (drop 1 text)
    else (if bytes_eq word (codes "struct") then fields [] (drop 1 text) else (if bytes_eq word (codes "interface") then methods [] (drop 1 text) else turn (predeclared word) text)))

abbrev pub first_word : {A : Type 0} → List ℕ → List ℕ → Turn A
first_word [] text = marked text
first_word (b ∷ bs) text = if list_all in_name (b ∷ bs) then worded (b ∷ bs) text else turn (defined (b ∷ bs)) text

-- at a type; a variadic parameter's is read as a slice, and a method's as a function
unfoldable pub opened : {A : Type 0} → List ℕ → Turn A
opened text = if begins_with 46 text then turn (a.Opened f.Slice) (drop 3 text) else first_word (word_at text) (behind_word text)

abbrev pub further_param : {A : Type 0} → List A → Bool → List ℕ → Turn A
further_param ps variadic text = if begins_with 44 text then params ps (drop 2 text) else results ps variadic (drop 1 text)

abbrev pub further_result : {A : Type 0} → List A → Bool → List A → List ℕ → Turn A
further_result ps variadic rs text = if begins_with 44 text then turn (a.Opened (f.Results ps variadic rs)) (drop 2 text) else turn (a.Made (t.Function ps variadic rs)) (drop 1 text)

abbrev pub past_separator : List ℕ → List ℕ
past_separator text = if begins_with 59 text then drop 2 text else text

abbrev pub field_with_type : {A : Type 0} → Member → Bool → A → FieldOf A
field_with_type m embedded of = record { name = m.name; «package» = m.«package»; embedded = embedded; of = of }

abbrev pub method_with_type : {A : Type 0} → Member → A → MethodOf A
method_with_type m of = record { name = m.name; «package» = m.«package»; of = of; pointer = false }

-- behind a part
unfoldable pub closed : {A : Type 0} → FrameOf A → A → List ℕ → Turn A
closed f.Pointer of text = turn (a.Made (t.Pointer of)) text
closed f.Slice of text = turn (a.Made (t.Slice of)) text
closed (f.Array n) of text = turn (a.Made (t.Array n of)) text
closed f.Key of text = turn (a.Opened (f.Value of)) (drop 1 text)
closed (f.Value key) of text = turn (a.Made (t.Map key of)) text
closed (f.Params ps variadic) of text = further_param (ps ++ of ∷ []) variadic text
closed (f.Result ps variadic) of text = turn (a.Made (t.Function ps variadic (of ∷ []))) text
closed (f.Results ps variadic rs) of text = further_result ps variadic (rs ++ of ∷ []) text
closed (f.Field fs m embedded) of text = fields (fs ++ field_with_type m embedded of ∷ []) (past_separator text)
closed (f.Method ms m) of text = methods (ms ++ method_with_type m of ∷ []) (past_separator text)
