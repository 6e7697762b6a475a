-- What tests add to a table.
use Rattle.std.specs.Prelude.{ℕ, List, length, Bool, not, ◌&&◌, nat_lt}
use Rattle.std.specs.Char.{is_ascii_alphabetic}
use Rattle.std.specs.List.{list_all}
use Rattle.gno_base.specs.Callers.{is_small_letter}
use Rattle.gno_terms.specs.declared.term.TypeRef.{TypeRef}
use Rattle.gno_terms.specs.declared.term.FieldOf.{FieldOf}
use Rattle.gno_terms.specs.declared.term.MethodOf.{MethodOf}
use Rattle.gno_terms.specs.Lawful.{Each, IsLawfulField, IsLawfulMethod, IsTyped}
use Rattle.gno_terms.specs.Tables.{Table, Below, type_at}
use Rattle.gno_terms.specs.Terms.{field_with, method_with}

-- a letter of ASCII
abbrev pub is_plain : ℕ → Bool
is_plain b = nat_lt b 128 && is_ascii_alphabetic b

-- letters of ASCII, of which one is no small one
abbrev pub is_camel : List ℕ → Bool
is_camel word = list_all is_plain word && not (list_all is_small_letter word)

-- the number of a type that may be a part of another
abbrev pub IsTypedAt : Table → TypeRef → Type 0
IsTypedAt table t = Below (length table.types) t × IsTyped (type_at table.types t)

abbrev pub AreTyped : Table → List TypeRef → Type 0
AreTyped table ts = Each (IsTypedAt table) ts

abbrev pub IsField : Table → FieldOf TypeRef → Type 0
IsField table f = Below (length table.types) f.of × IsLawfulField (field_with (type_at table.types) f)

abbrev pub AreFields : Table → List (FieldOf TypeRef) → Type 0
AreFields table fs = Each (IsField table) fs

abbrev pub IsMethod : Table → MethodOf TypeRef → Type 0
IsMethod table m = Below (length table.types) m.of × IsLawfulMethod (method_with (type_at table.types) m)

abbrev pub AreMethods : Table → List (MethodOf TypeRef) → Type 0
AreMethods table ms = Each (IsMethod table) ms
