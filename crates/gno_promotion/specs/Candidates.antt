-- The members of the types that embedded fields lead to, and which of them are selected.
use Rattle.std.specs.Prelude.{◌≡◌, ◌++◌, [], ◌∷◌, List, map, length, Bool, true, false, not, ◌&&◌, if◌then◌else◌, nat_lt, Option, Some, None, slice_get, codes}
use Rattle.std.specs.declared.cmp.Ordering.{Ordering}
use Rattle.std.specs.Ordering.{is_eq, is_gt}
use Rattle.std.specs.Str.{bytes_eq}
use Rattle.gno_embedding.specs.Embedding.{IsKnown}
use Rattle.gno_embedding.specs.declared.ways.Reached.{Reached}
use Rattle.gno_promotion.specs.declared.candidate.CandidateOf.{CandidateOf}
use Rattle.gno_promotion.specs.declared.candidate.Way.{Way}
use Rattle.gno_promotion.specs.declared.found.PromotedOf.{PromotedOf}
use Rattle.gno_promotion.specs.MethodSets.{HasMembers, Member, field, method}
use Rattle.gno_terms.specs.declared.term.FieldOf.{FieldOf}
use Rattle.gno_terms.specs.declared.term.GoType.{GoType}
use Rattle.gno_terms.specs.declared.term.MethodOf.{MethodOf}
use Rattle.gno_terms.specs.declared.term.TermOf.{TermOf}
use Rattle.gno_terms.specs.declared.term.TermOf.TheVariants as t
use Rattle.gno_terms.specs.declared.term.TypeRef.{TypeRef}
use Rattle.gno_terms.specs.Lawful.{Each}
use Rattle.gno_terms.specs.Normal.{by_name}
use Rattle.gno_terms.specs.Tables.{Table, Below, Is, type_at}
use Rattle.gno_terms.specs.Terms.{method_with, term_of}
use Rattle.gno_type_rows.specs.RowTypes.{is_defined}

abbrev pub way_of : Reached → Way
way_of it = record { depth = it.depth; followed = it.followed; twice = it.twice }

-- the type itself
abbrev pub no_way : Way
no_way = record { depth = 0; followed = false; twice = false }

abbrev pub of_method : {A : Type 0} → Way → MethodOf A → CandidateOf A
of_method way m = record { member = m; is_method = true; way = way }

abbrev pub of_field : {A : Type 0} → Way → FieldOf A → CandidateOf A
of_field way f = record { member = record { name = f.name; «package» = f.«package»; of = f.of; pointer = false }; is_method = false; way = way }

-- a field stands as if it were a method
abbrev pub as_method : Member → MethodOf GoType
as_method (field f) = record { name = f.name; «package» = f.«package»; of = f.of; pointer = false }
as_method (method m) = m

abbrev pub is_method : Member → Bool
is_method (field f) = false
is_method (method m) = true

abbrev pub candidate_of : Way → Member → CandidateOf GoType
candidate_of way m = record { member = as_method m; is_method = is_method m; way = way }

abbrev pub candidate_with : {A B : Type 0} → (A → B) → CandidateOf A → CandidateOf B
candidate_with f c = record { member = method_with f c.member; is_method = c.is_method; way = c.way }

-- the members of a type, by its declared methods and its underlying type
abbrev pub candidates_of : {A : Type 0} → Way → List (MethodOf A) → TermOf A → List (CandidateOf A)
candidates_of way declared (t.Struct fs) = map (of_method way) declared ++ map (of_field way) fs
candidates_of way declared (t.Interface ms) = map (of_method way) declared ++ map (of_method way) ms
candidates_of way declared (t.Pointer a) = []
candidates_of way declared x = map (of_method way) declared

abbrev pub IsBelow : Table → CandidateOf TypeRef → Type 0
IsBelow table c = Below (length table.types) c.member.of

-- these are the members of a type
pub record AreMembers (table : Table) (s : GoType) (way : Way) (cs : List (CandidateOf TypeRef)) : Type 0 where
  pub members : List Member
  pub has : HasMembers table s members
  pub are : map (candidate_with (type_at table.types)) cs ≡ map (candidate_of way) members
  pub below : Each (IsBelow table) cs

-- they stand behind others
pub record ArePushed (table : Table) (s : GoType) (way : Way) (old new : List (CandidateOf TypeRef)) : Type 0 where
  pub own : List (CandidateOf TypeRef)
  pub members : AreMembers table s way own
  pub all : new ≡ old ++ own

-- first those of one type, and then others
pub record BeginWith (table : Table) (it : Reached) (More : List (CandidateOf TypeRef) → Type 0) (cs : List (CandidateOf TypeRef)) : Type 0 where
  pub of : GoType
  pub is : Is table it.of of
  pub own : List (CandidateOf TypeRef)
  pub members : AreMembers table of (way_of it) own
  pub rest : List (CandidateOf TypeRef)
  pub more : More rest
  pub all : cs ≡ own ++ rest

-- the members of each of these types
abbrev pub AreOfReached : Table → List Reached → List (CandidateOf TypeRef) → Type 0
AreOfReached table [] cs = cs ≡ []
AreOfReached table (it ∷ its) cs = BeginWith table it (AreOfReached table its) cs

pub record AreReachedPushed (table : Table) (its : List Reached) (old new : List (CandidateOf TypeRef)) : Type 0 where
  pub own : List (CandidateOf TypeRef)
  pub members : AreOfReached table its own
  pub all : new ≡ old ++ own

-- the same of the first of these types; others are left
pub record AreReachedSo (table : Table) (its left : List Reached) (old new : List (CandidateOf TypeRef)) : Type 0 where
  pub own : List (CandidateOf TypeRef)
  pub members : (more : List (CandidateOf TypeRef)) → AreOfReached table left more → AreOfReached table its (own ++ more)
  pub all : new ≡ old ++ own

-- the members of the type itself, and then those of each that embedded fields lead to
pub record AreGathered (table : Table) (s : GoType) (its : List Reached) (cs : List (CandidateOf TypeRef)) : Type 0 where
  pub own : List (CandidateOf TypeRef)
  pub members : AreMembers table s no_way own
  pub rest : List (CandidateOf TypeRef)
  pub more : AreOfReached table its rest
  pub all : cs ≡ own ++ rest

-- it stands in the table, and its underlying type is known
pub record IsKnownAt (table : Table) (it : Reached) : Type 0 where
  pub type : GoType
  pub is : Is table it.of type
  pub known : IsKnown table type

-- a defined type, which has a definition
pub record IsDefinedAt (table : Table) (r : TypeRef) : Type 0 where
  pub type : GoType
  pub is : Is table r type
  pub defined : is_defined (term_of type) ≡ true
  pub known : IsKnown table type

-- ---- which are selected

abbrev pub by_member : {A : Type 0} → CandidateOf A → CandidateOf A → Ordering
by_member c d = by_name c.member d.member

-- a candidate before the first that does not stand before it
abbrev pub placed : {A : Type 0} → CandidateOf A → List (CandidateOf A) → List (CandidateOf A)
placed c [] = c ∷ []
placed c (d ∷ ds) = if is_gt (by_member c d) then d ∷ placed c ds else c ∷ d ∷ ds

-- in byte order of the names and packages; those of one name stay in their order
abbrev pub by_names : {A : Type 0} → List (CandidateOf A) → List (CandidateOf A)
by_names [] = []
by_names (c ∷ cs) = placed c (by_names cs)

-- the next one has the same name and package
abbrev pub goes_on : {A : Type 0} → CandidateOf A → Option (CandidateOf A) → Bool
goes_on c None = false
goes_on c (Some d) = is_eq (by_member c d)

-- and is not deeper
abbrev pub has_rival : {A : Type 0} → CandidateOf A → Option (CandidateOf A) → Bool
has_rival c None = false
has_rival c (Some d) = is_eq (by_member c d) && not (nat_lt c.way.depth d.way.depth)

-- of those of one name the first, where it is a method and alone as near
abbrev pub stands_out : {A : Type 0} → CandidateOf A → Option (CandidateOf A) → Bool
stands_out c next = (c.is_method && not c.way.twice) && (not (bytes_eq c.member.name (codes "_")) && not (has_rival c next))

abbrev pub promoted : {A : Type 0} → CandidateOf A → PromotedOf A
promoted c = record { method = c.member; followed = c.way.followed }

abbrev pub picked_one : {A : Type 0} → Bool → CandidateOf A → Option (CandidateOf A) → List (PromotedOf A)
picked_one behind c next = if not behind && stands_out c next then promoted c ∷ [] else []

-- those of one name stand together, the nearest first; `behind`: another of its name stands before the first
abbrev pub picked : {A : Type 0} → Bool → List (CandidateOf A) → List (PromotedOf A)
picked behind [] = []
picked behind (c ∷ cs) = picked_one behind c (slice_get cs 0) ++ picked (goes_on c (slice_get cs 0)) cs
