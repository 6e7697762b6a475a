-- Statements. Go specification, "Statements".
--     Block  = "{" { Stmt ";" } "}" .
--     Stmt   = Decl | name ":" Stmt | Simple | Block | If | Switch | For | "return" [ Exprs ] | "break" [ name ] | "continue" [ name ] | "fallthrough" | "defer" Expr .
--     Simple = [ Expr | Expr ( "++" | "--" ) | Exprs assign Exprs | Names ":=" Exprs ] .
--     If     = "if" [ Simple ";" ] Expr Block [ "else" ( If | Block ) ] .
--     Switch = "switch" [ Simple ";" ] [ Expr | Guard ] "{" { Case ":" { Stmt ";" } } "}" .
--     Guard  = [ name ":=" ] Primary "." "(" "type" ")" .
--     Case   = "case" Exprs | "default" .
--     For    = "for" [ Expr | [ Simple ] ";" [ Expr ] ";" [ Simple ] | [ Exprs "=" | Names ":=" ] "range" Expr ] Block .
-- A semicolon may be left out before "}". There are as few empty statements as can be.
use Rattle.std.specs.Prelude.{ℕ, Bool, true, false, not, List, [], ◌∷◌, ◌++◌, Option, Some, None}
use Rattle.gno_grammar.specs.Phrases.{nothing, either, both, follow, repeat, optional, construct, until}
use Rattle.gno_scan.specs.declared.kind.TokenKind.{TokenKind}
use Rattle.gno_scan.specs.declared.kind.TokenKind.TheVariants as k
use Rattle.gno_scan.specs.declared.token.Pos.{Pos}
use Rattle.gno_scan.specs.declared.token.Token.{Token}
use Rattle.gno_tree.specs.declared.expr.Expr.{Expr}
use Rattle.gno_tree.specs.declared.expr.Expr.TheVariants as x
use Rattle.gno_tree.specs.declared.operator.AssignOperator.{AssignOperator}
use Rattle.gno_tree.specs.declared.operator.AssignOperator.TheVariants as assign
use Rattle.gno_tree.specs.declared.operator.StepOperator.{StepOperator}
use Rattle.gno_tree.specs.declared.operator.StepOperator.TheVariants.{Increment, Decrement}
use Rattle.gno_tree.specs.declared.statement.Arm.{Arm}
use Rattle.gno_tree.specs.declared.statement.Block.{Block}
use Rattle.gno_tree.specs.declared.statement.Case.{Case}
use Rattle.gno_tree.specs.declared.statement.ForHeader.{ForHeader}
use Rattle.gno_tree.specs.declared.statement.ForHeader.TheVariants as header
use Rattle.gno_tree.specs.declared.statement.Guard.{Guard as GuardTree}
use Rattle.gno_tree.specs.declared.statement.If.{roll-If}
use Rattle.gno_tree.specs.declared.statement.Labels.{Labels}
use Rattle.gno_tree.specs.declared.statement.Labels.TheVariants as labels
use Rattle.gno_tree.specs.declared.statement.RangeLeft.TheVariants as range
use Rattle.gno_tree.specs.declared.statement.Simple.{Simple}
use Rattle.gno_tree.specs.declared.statement.Simple.TheVariants as simple
use Rattle.gno_tree.specs.declared.statement.Statement.{Statement}
use Rattle.gno_tree.specs.declared.statement.Statement.TheVariants as stmt
use Rattle.gno_tree.specs.declared.statement.Subject.{Subject}
use Rattle.gno_tree.specs.declared.statement.Subject.TheVariants as subject
use Rattle.gno_tree.specs.declared.statement.Switch.{roll-Switch}
use Rattle.gno_tree.specs.declared.word.Name.{Name}
use Rattle.gno_rules.specs.Kinds.{numbers}
use Rattle.gno_rules.specs.Parts.{P, a, any, to, past, up_to, always, name}
use Rattle.gno_rules.specs.Signatures.{COMMA}
use Rattle.gno_rules.specs.Shapes.{is_guard, expr_of, shape_of_operand, found_of, with_suffix, MOST, EXPRESSION, exprs_of}
use Rattle.gno_rules.specs.Expressions.{expr, plain_expr, exprs, values, operand_alone, suffix}
use Rattle.gno_rules.specs.Declarations.{declaration}
use Rattle.gno_rules.specs.declared.expression.Exprs.{Exprs}
use Rattle.gno_rules.specs.declared.expression.Found.{Found}
use Rattle.gno_rules.specs.declared.expression.Found.TheVariants as f
use Rattle.gno_rules.specs.declared.expression.Operand.{Operand}
use Rattle.gno_rules.specs.declared.expression.Place.{Place}
use Rattle.gno_rules.specs.declared.expression.Place.TheVariants.{Plain, Header, Guard}
use Rattle.gno_rules.specs.declared.rule.Rule.TheVariants as r
use Rattle.gno_rules.specs.declared.statement.Cases.{Cases}
use Rattle.gno_rules.specs.declared.statement.Header.{Header as HeaderRead}
use Rattle.gno_rules.specs.declared.statement.Kind.{Kind}
use Rattle.gno_rules.specs.declared.statement.Kind.TheVariants as kind
use Rattle.gno_rules.specs.declared.statement.Labeled.{Labeled}
use Rattle.gno_rules.specs.declared.statement.Read.{Read}
use Rattle.gno_rules.specs.declared.statement.Read.TheVariants as read
use Rattle.gno_rules.specs.declared.statement.SimpleRead.{SimpleRead}
use Rattle.gno_rules.specs.declared.statement.SimpleRead.TheVariants as sr
use Rattle.gno_rules.specs.declared.statement.Statements.{Statements}
use Rattle.gno_rules.specs.declared.statement.SwitchHeader.{SwitchHeader}
use Rattle.gno_rules.specs.declared.statement.Tag.{Tag}
use Rattle.gno_rules.specs.declared.statement.Tag.TheVariants as g
use Rattle.gno_rules.specs.declared.statement.Tail.{Tail}
use Rattle.gno_rules.specs.declared.statement.Tail.TheVariants as tail

-- ---- simple statements

-- where the expressions of a simple statement stand
abbrev pub place_of : Kind → Place
place_of kind.Body = Plain
place_of kind.Header = Header
place_of kind.Switch = Guard
place_of kind.For = Header

-- what the expressions are that a simple statement begins with
pub data Left : Type 0 where
  one_name : Left
  one_expr : Left
  one_guard : Left
  many_names : Left
  many_exprs : Left

abbrev pub are_names : List Found → Bool
are_names [] = true
are_names (f.Name n ∷ es) = are_names es
are_names (f.Expr e shape ∷ es) = false
are_names (f.Guard e pos ∷ es) = false

abbrev pub many : Bool → Left
many true = many_names
many false = many_exprs

abbrev pub left_of_list : Found → List Found → Left
left_of_list (f.Name n) [] = one_name
left_of_list (f.Expr e shape) [] = one_expr
left_of_list (f.Guard e pos) es = one_guard
left_of_list e (e' ∷ es) = many (are_names (e ∷ e' ∷ es))

abbrev pub left_of : Exprs → Left
left_of es = left_of_list es.first es.rest

abbrev pub names_of : List Found → List Name
names_of [] = []
names_of (f.Name n ∷ es) = n ∷ names_of es
names_of (f.Expr e shape ∷ es) = names_of es
names_of (f.Guard e pos ∷ es) = names_of es

abbrev pub all_names : Exprs → List Name
all_names es = names_of (es.first ∷ es.rest)

abbrev pub alone : Found → SimpleRead
alone (f.Name n) = sr.Name n
alone (f.Expr e shape) = sr.Expr e
alone (f.Guard e pos) = sr.Guard (record { name = None; of = e; pos = pos })

abbrev pub guard_name : Found → Option Name
guard_name (f.Name n) = Some n
guard_name (f.Expr e shape) = None
guard_name (f.Guard e pos) = None

abbrev pub simple_read : Exprs → Tail → SimpleRead
simple_read es tail.Nothing = alone es.first
simple_read es (tail.Step pos operator) = sr.Simple (simple.Step (expr_of es.first) pos operator)
simple_read es (tail.Assign pos operator right) = sr.Simple (simple.Assign (exprs_of es) pos operator right)
simple_read es (tail.Define pos values) = sr.Simple (simple.Define (all_names es) pos values)
simple_read es (tail.Guard of pos) = sr.Guard (record { name = guard_name es.first; of = of; pos = pos })
simple_read es (tail.RangeAssign of) = sr.Range (range.Assign (exprs_of es)) of
simple_read es (tail.RangeDefine of) = sr.Range (range.Define (all_names es)) of

abbrev pub step_operator : TokenKind → StepOperator
step_operator k.Increment = Increment
step_operator _ = Decrement

abbrev pub ASSIGN_OPERATORS : List TokenKind
ASSIGN_OPERATORS = k.PlusAssign ∷ k.MinusAssign ∷ k.StarAssign ∷ k.SlashAssign ∷ k.PercentAssign ∷ k.AndAssign ∷ k.OrAssign ∷ k.CaretAssign ∷ k.ShiftLeftAssign
    ∷ k.ShiftRightAssign ∷ k.AndNotAssign ∷ []

abbrev pub assign_operator : TokenKind → AssignOperator
assign_operator k.Assign = assign.Assign
assign_operator k.PlusAssign = assign.Add
assign_operator k.MinusAssign = assign.Sub
assign_operator k.StarAssign = assign.Mul
assign_operator k.SlashAssign = assign.Quo
assign_operator k.PercentAssign = assign.Rem
assign_operator k.AndAssign = assign.And
assign_operator k.OrAssign = assign.Or
assign_operator k.CaretAssign = assign.Xor
assign_operator k.ShiftLeftAssign = assign.ShiftLeft
assign_operator k.ShiftRightAssign = assign.ShiftRight
assign_operator _ = assign.AndNot

-- behind `name :=` in the header of a `switch`: values, or a guard
abbrev pub defined_by : Found → Exprs → Pos → Tail
defined_by (f.Guard of dot) es pos = tail.Guard of dot
defined_by (f.Name n) es pos = tail.Define pos (exprs_of es)
defined_by (f.Expr e shape) es pos = tail.Define pos (exprs_of es)

abbrev pub defined : Exprs → Pos → Tail
defined es pos = defined_by es.first es pos

-- the kinds that begin what stands behind the expressions of a simple statement
abbrev pub TAIL : List ℕ
TAIL = numbers (k.Increment ∷ k.Decrement ∷ k.Assign ∷ k.Define ∷ ASSIGN_OPERATORS)

-- the kinds that can go on with a simple statement, with a header that may begin with one, and with what a `switch` chooses by
abbrev pub SIMPLE_MOST : Kind → List ℕ
SIMPLE_MOST place = TAIL ++ (COMMA ++ MOST (place_of place) 5)

abbrev pub HEADER_MOST : Kind → List ℕ
HEADER_MOST place = numbers (k.Semicolon ∷ []) ++ (EXPRESSION ++ SIMPLE_MOST place)

abbrev pub TAG_MOST : List ℕ
TAG_MOST = numbers (k.Define ∷ []) ++ MOST Guard 5

-- ---- headers

abbrev pub header_of : Option Simple → Expr → HeaderRead
header_of before condition = record { before = before; condition = condition }

abbrev pub switch_header : Option Simple → Subject → SwitchHeader
switch_header before on = record { before = before; subject = on }

-- ---- lists of statements

abbrev pub simple_statement : SimpleRead → Read
simple_statement (sr.Name n) = read.Name n
simple_statement (sr.Expr e) = read.Statement (stmt.Simple (simple.Expr e))
simple_statement (sr.Simple s) = read.Statement (stmt.Simple s)
simple_statement (sr.Guard of) = read.Statement (stmt.Simple (simple.Expr of.of))
simple_statement (sr.Range left of) = read.Statement (stmt.Simple (simple.Expr of))

-- behind a name that stands alone a `:` makes it a label
abbrev pub may_be_label : Option Read → Bool
may_be_label None = false
may_be_label (Some (read.Name n)) = true
may_be_label (Some (read.Statement s)) = false

abbrev pub statement_of : Read → Statement
statement_of (read.Name n) = stmt.Simple (simple.Expr (x.Name n))
statement_of (read.Statement s) = s

abbrev pub labels_with : List Name → Option Read → List Name
labels_with ns None = ns
labels_with ns (Some (read.Name n)) = ns ++ n ∷ []
labels_with ns (Some (read.Statement s)) = ns

abbrev pub with_label : Labeled → Option Read → Labeled
with_label labeled next = record { labels = labels_with labeled.labels labeled.last; last = next }

abbrev pub no_labels : Read → Labeled
no_labels s = record { labels = []; last = Some s }

abbrev pub option_statement : Option Read → Option Statement
option_statement None = None
option_statement (Some s) = Some (statement_of s)

abbrev pub labeled_statement : List Name → Option Read → Statement
labeled_statement [] None = stmt.Labeled [] None
labeled_statement [] (Some s) = statement_of s
labeled_statement (n ∷ ns) s = stmt.Labeled (n ∷ ns) (option_statement s)

-- a `;` ends a statement, or is one that is empty
abbrev pub ended : Option Statement → Token → Statement
ended None semicolon = stmt.Empty semicolon.pos
ended (Some s) semicolon = s

abbrev pub with_statement : Statements → Token × Option Statement → Statements
with_statement ss next = record { done = ss.done ++ ended ss.last next.0 ∷ []; last = next.1 }

abbrev pub first_statement : Option Statement → Statements
first_statement s = record { done = []; last = s }

abbrev pub as_list : Option Statement → List Statement
as_list None = []
as_list (Some s) = s ∷ []

abbrev pub all_statements : Statements → List Statement
all_statements ss = ss.done ++ as_list ss.last

abbrev pub is_some : {A : Type 0} → Option A → Bool
is_some None = false
is_some (Some x) = true

-- ---- `if`

abbrev pub Arms : Type 0
Arms = List Arm × Option Block

abbrev pub arm : Token → HeaderRead × Block → Arm
arm t body = record { pos = t.pos; before = body.0.before; condition = body.0.condition; body = body.1 }

abbrev pub Alternative : Type 0
Alternative = Option Arm × Option Block

abbrev pub with_arm : Arms → Alternative → Arms
with_arm arms (Some arm, block) = (arms.0 ++ arm ∷ [], block)
with_arm arms (None, block) = (arms.0, block)

-- ---- `switch`

abbrev pub case_of : Pos → Labels → Statements → Case
case_of pos labels ss = record { pos = pos; labels = labels; statements = all_statements ss }

abbrev pub with_case : Cases → Case × Bool → Cases
with_case cases next = record { cases = cases.cases ++ next.0 ∷ []; is_open = next.1 }

abbrev pub no_cases : Cases
no_cases = record { cases = []; is_open = false }

abbrev pub guard : Option Name → Expr → Pos → GuardTree
guard bound of pos = record { name = bound; of = of; pos = pos }

abbrev pub tag_of : Found → Option Name → Tag
tag_of (f.Name n) bound = g.Expr (x.Name n)
tag_of (f.Expr e shape) bound = g.Expr e
tag_of (f.Guard of pos) bound = g.Guard (guard bound of pos)

abbrev pub subject_of : Option Tag → Subject
subject_of None = subject.Nothing
subject_of (Some (g.Expr e)) = subject.Expr e
subject_of (Some (g.Guard of)) = subject.Guard of

module _ (text : List ℕ) where
  -- assign Exprs, and in the header of a `for` "=" "range" Expr
  unfoldable pub range_of : P Expr
  range_of = past (a k.Range) (to expr_of (expr text Header))

  unfoldable pub assigned : Kind → P (Pos → Tail)
  assigned kind.For = either (to (λ of pos. tail.RangeAssign of) range_of) (to (λ right pos. tail.Assign pos assign.Assign right) (values text Header))
  assigned kind.Body = to (λ right pos. tail.Assign pos assign.Assign right) (values text Plain)
  assigned kind.Header = to (λ right pos. tail.Assign pos assign.Assign right) (values text Header)
  assigned kind.Switch = to (λ right pos. tail.Assign pos assign.Assign right) (values text Header)

  unfoldable pub assign_tail : Kind → P Tail
  assign_tail place = either (both (λ t f. f t.pos) (a k.Assign) (assigned place))
      (both (λ t right. tail.Assign t.pos (assign_operator t.kind) right) (any ASSIGN_OPERATORS) (values text (place_of place)))

  -- ":=" Exprs, and in the header of a `for` ":=" "range" Expr
  unfoldable pub define_tail : Kind → P Tail
  define_tail kind.For = both {B = Pos → Tail} (λ t f. f t.pos) (a k.Define)
      (either (to (λ of pos. tail.RangeDefine of) range_of) (to (λ values pos. tail.Define pos values) (values text Header)))
  define_tail kind.Body = both (λ t values. tail.Define t.pos values) (a k.Define) (values text Plain)
  define_tail kind.Header = both (λ t values. tail.Define t.pos values) (a k.Define) (values text Header)
  define_tail kind.Switch = both (λ t values. tail.Define t.pos values) (a k.Define) (values text Header)

  -- behind one name in the header of a `switch` a guard may come too
  unfoldable pub define_one : Kind → P Tail
  define_one kind.For = define_tail kind.For
  define_one kind.Body = define_tail kind.Body
  define_one kind.Header = define_tail kind.Header
  define_one kind.Switch = follow (λ _. COMMA ++ MOST Guard 5) (COMMA ++ MOST Guard 5) EXPRESSION (λ t es. defined es t.pos) (a k.Define) (λ _. exprs text Guard)

  unfoldable pub step_tail : P Tail
  step_tail = to (λ t. tail.Step t.pos (step_operator t.kind)) (any (k.Increment ∷ k.Decrement ∷ []))

  unfoldable pub simple_tail : Kind → Left → P Tail
  simple_tail place one_name = either step_tail (either (assign_tail place) (either (define_one place) (nothing tail.Nothing)))
  simple_tail place one_expr = either step_tail (either (assign_tail place) (nothing tail.Nothing))
  simple_tail place one_guard = nothing tail.Nothing
  simple_tail place many_names = either (assign_tail place) (define_tail place)
  simple_tail place many_exprs = assign_tail place

  unfoldable pub simple_statements : Kind → P SimpleRead
  simple_statements place = follow (λ _. SIMPLE_MOST place) (SIMPLE_MOST place) TAIL simple_read (exprs text (place_of place)) (λ es. simple_tail place (left_of es))

  -- ---- `if`

  unfoldable pub condition : P Expr
  condition = to expr_of (expr text Header)

  unfoldable pub behind_simple : SimpleRead → P HeaderRead
  behind_simple (sr.Name n) = either (to (header_of (Some (simple.Expr (x.Name n)))) (past (a k.Semicolon) condition)) (nothing (header_of None (x.Name n)))
  behind_simple (sr.Expr e) = either (to (header_of (Some (simple.Expr e))) (past (a k.Semicolon) condition)) (nothing (header_of None e))
  behind_simple (sr.Simple s) = to (header_of (Some s)) (past (a k.Semicolon) condition)
  behind_simple (sr.Guard of) = to (header_of None) (past (a k.Semicolon) condition)
  behind_simple (sr.Range left of) = to (header_of None) (past (a k.Semicolon) condition)

  -- [ Simple ";" ] Expr
  unfoldable pub if_header : P HeaderRead
  if_header = either (to (header_of None) (past (a k.Semicolon) condition))
      (follow (λ _. HEADER_MOST kind.Header) (HEADER_MOST kind.Header) (numbers (k.Semicolon ∷ [])) (λ _ h. h) (simple_statements kind.Header) behind_simple)

  unfoldable pub if_arm : P Arm
  if_arm = both arm (a k.If) (both (λ header body. (header, body)) if_header (construct r.Block))

  -- "else" ( If | Block )
  unfoldable pub alternative : P Alternative
  alternative = past (a k.Else) (either (to (λ arm. (Some arm, None)) if_arm) (to (λ block. (None, Some block)) (construct r.Block)))

  unfoldable pub if_arms : P Arms
  if_arms = repeat (λ arms. not (is_some arms.1)) with_arm (to (λ arm. (arm ∷ [], None)) if_arm) alternative

  unfoldable pub if_statement : P Statement
  if_statement = to (λ arms. stmt.If (roll-If (record { arms = arms.0; otherwise = arms.1 }))) if_arms

  -- ---- `switch`

  -- "type" must stand behind `name :=`
  unfoldable pub guard_alone : P Operand
  guard_alone = until (λ _. []) [] (λ x. is_guard (shape_of_operand x)) with_suffix
      (operand_alone text Guard) (λ x. suffix text Guard (shape_of_operand x))

  unfoldable pub behind_tag : Found → P Tag
  behind_tag (f.Name n) = either (to (λ x. tag_of (found_of x) (Some n)) (past (a k.Define) guard_alone)) (nothing (g.Expr (x.Name n)))
  behind_tag (f.Expr e shape) = nothing (g.Expr e)
  behind_tag (f.Guard of pos) = nothing (g.Guard (guard None of pos))

  -- Expr | Guard
  unfoldable pub tag : P Tag
  tag = follow (λ _. TAG_MOST) TAG_MOST (numbers (k.Define ∷ [])) (λ _ s. s) (expr text Guard) behind_tag

  unfoldable pub tag_behind : Option Simple → P SwitchHeader
  tag_behind before = to (λ s. switch_header before (subject_of s)) (past (a k.Semicolon) (optional tag))

  unfoldable pub behind_switch : SimpleRead → P SwitchHeader
  behind_switch (sr.Name n) = either (tag_behind (Some (simple.Expr (x.Name n)))) (nothing (switch_header None (subject.Expr (x.Name n))))
  behind_switch (sr.Expr e) = either (tag_behind (Some (simple.Expr e))) (nothing (switch_header None (subject.Expr e)))
  behind_switch (sr.Simple s) = tag_behind (Some s)
  behind_switch (sr.Guard of) = nothing (switch_header None (subject.Guard of))
  behind_switch (sr.Range left of) = tag_behind None

  -- [ Simple ";" ] [ Expr | Guard ]
  unfoldable pub switch_head : P SwitchHeader
  switch_head = either (tag_behind None)
      (follow (λ _. HEADER_MOST kind.Switch) (HEADER_MOST kind.Switch) (numbers (k.Semicolon ∷ [])) (λ _ h. h) (simple_statements kind.Switch) behind_switch)

  abbrev pub no_head : SwitchHeader
  no_head = switch_header None subject.Nothing

  unfoldable pub switch_statement : P Statement
  switch_statement = both {B = SwitchHeader × List Case} (λ t body. stmt.Switch (roll-Switch (record { pos = t.pos; before = body.0.before; subject = body.0.subject; cases = body.1 }))) (a k.Switch)
      (both {C = SwitchHeader × List Case} (λ header cases. (header, cases)) (either switch_head (nothing no_head)) (construct r.SwitchBody))

  -- ---- `for`

  abbrev pub simple_of : SimpleRead → Simple
  simple_of (sr.Name n) = simple.Expr (x.Name n)
  simple_of (sr.Expr e) = simple.Expr e
  simple_of (sr.Simple s) = s
  simple_of (sr.Guard of) = simple.Expr of.of
  simple_of (sr.Range left of) = simple.Expr of

  -- ";" [ Expr ] ";" [ Simple ]
  unfoldable pub for_clauses : Option Simple → P ForHeader
  for_clauses before = both (λ condition after. header.Clauses before condition after) (past (a k.Semicolon) (either (to Some condition) (nothing None)))
      (past (a k.Semicolon) (either (to (λ s. Some (simple_of s)) (simple_statements kind.Header)) (nothing None)))

  unfoldable pub behind_for : SimpleRead → P ForHeader
  behind_for (sr.Name n) = either (for_clauses (Some (simple.Expr (x.Name n)))) (nothing (header.While (x.Name n)))
  behind_for (sr.Expr e) = either (for_clauses (Some (simple.Expr e))) (nothing (header.While e))
  behind_for (sr.Simple s) = for_clauses (Some s)
  behind_for (sr.Guard of) = for_clauses None
  behind_for (sr.Range left of) = nothing (header.Range left of)

  -- Expr | [ Simple ] ";" [ Expr ] ";" [ Simple ] | [ Exprs "=" | Names ":=" ] "range" Expr
  unfoldable pub for_header : P ForHeader
  for_header = either (to (header.Range range.Nothing) range_of) (either (for_clauses None)
      (follow (λ _. HEADER_MOST kind.For) (HEADER_MOST kind.For) (numbers (k.Semicolon ∷ [])) (λ _ h. h) (simple_statements kind.For) behind_for))

  unfoldable pub for_statement : P Statement
  for_statement = both {B = ForHeader × Block} (λ t body. stmt.For (record { pos = t.pos; header = body.0; body = body.1 })) (a k.For)
      (both {C = ForHeader × Block} (λ header body. (header, body)) (either for_header (nothing header.Forever)) (construct r.Block))

  -- ---- statements

  unfoldable pub return_statement : P Statement
  return_statement = both (λ t values. stmt.Return t.pos values) (a k.Return) (either (values text Plain) (nothing []))

  unfoldable pub break_statement : P Statement
  break_statement = both (λ t label. stmt.Break t.pos label) (a k.Break) (optional (name text))

  unfoldable pub continue_statement : P Statement
  continue_statement = both (λ t label. stmt.Continue t.pos label) (a k.Continue) (optional (name text))

  unfoldable pub fallthrough_statement : P Statement
  fallthrough_statement = to (λ t. stmt.Fallthrough t.pos) (a k.Fallthrough)

  unfoldable pub defer_statement : P Statement
  defer_statement = both (λ t call. stmt.Defer t.pos call) (a k.Defer) (plain_expr text)

  unfoldable pub keyword_statement : P Statement
  keyword_statement = either (to stmt.Declaration (declaration text)) (either (to stmt.Block (construct r.Block)) (either if_statement (either switch_statement (either for_statement
      (either return_statement (either break_statement (either continue_statement (either fallthrough_statement defer_statement))))))))

  unfoldable pub unlabeled : P Read
  unlabeled = either (to read.Statement keyword_statement) (to simple_statement (simple_statements kind.Body))

  -- name ":" Stmt
  unfoldable pub labeled : P Labeled
  labeled = repeat (λ l. may_be_label l.last) with_label (to no_labels unlabeled) (past (a k.Colon) (optional unlabeled))

  unfoldable pub statement : P Statement
  statement = to (λ l. labeled_statement l.labels l.last) labeled

  -- { Stmt ";" }
  unfoldable pub next_statement : P (Token × Option Statement)
  next_statement = both (λ t s. (t, s)) (a k.Semicolon) (optional statement)

  unfoldable pub statements : P Statements
  statements = repeat always with_statement (to first_statement (optional statement)) next_statement

  -- "{" { Stmt ";" } "}"
  unfoldable pub block : P Block
  block = both (λ t ss. record { pos = t.pos; statements = all_statements ss }) (a k.LeftBrace) (up_to statements (a k.RightBrace))

  -- "case" Exprs | "default"
  unfoldable pub case_labels : P (Pos × Labels)
  case_labels = either (both (λ t es. (t.pos, labels.Exprs es)) (a k.Case) (values text Plain)) (to (λ t. (t.pos, labels.Default)) (a k.Default))

  unfoldable pub one_case : P (Case × Bool)
  one_case = both (λ labels ss. (case_of labels.0 labels.1 ss, is_some ss.last)) (up_to case_labels (a k.Colon)) statements

  -- A case may follow only where a `;` ended the last statement of the one before.
  unfoldable pub cases : P Cases
  cases = repeat (λ cs. not cs.is_open) with_case (nothing no_cases) one_case

  -- "{" { Case ":" { Stmt ";" } } "}"
  unfoldable pub switch_body : P (List Case)
  switch_body = past (a k.LeftBrace) (to (λ cs. cs.cases) (up_to cases (a k.RightBrace)))
