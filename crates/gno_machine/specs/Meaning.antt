-- What a call of a function means, with exact cycles. Go specification, "Calls", "Operators", "Assignment statements", "IncDec statements", "Expression statements",
-- "Bootstrapping" (println) and "Return statements"; the costs are this project's own.
use Rattle.std.specs.Prelude.{ℕ, ◌-◌, ◌/◌, List, [], ◌∷◌, ◌++◌, Option, Some, None, Bool, true, false, nat_lt, if◌then◌else◌, slice_set, slice_get, length, pos}
use Rattle.std.specs.Option.{unwrap_or}
use Rattle.std.specs.Fmt.{signed_decimal}
use Rattle.gno_base.specs.declared.kind.Kind.TheVariants.{Int}
use Rattle.gno_base.specs.Number.{Number, sum, difference, product}
use Rattle.gno_first.specs.declared.tree.FirstFile.{FirstFile}
use Rattle.gno_first.specs.declared.tree.FirstFunc.{FirstFunc}
use Rattle.gno_first.specs.declared.tree.FirstStmt.{FirstStmt}
use Rattle.gno_first.specs.declared.tree.FirstStmt.TheVariants.{Increment, Assign, Print, Return}
use Rattle.gno_first.specs.declared.tree.FirstExpr.{FirstExpr}
use Rattle.gno_first.specs.declared.tree.FirstExpr.TheVariants.{Name, Number as Literal, NameName, NameNumber, NumberName}
use Rattle.gno_first.specs.declared.tree.FirstOp.{FirstOp}
use Rattle.gno_first.specs.declared.tree.FirstOp.TheVariants.{Add, Sub, Mul}
use Rattle.gno_machine.specs.declared.run.FirstEnd.{FirstEnd}
use Rattle.gno_machine.specs.declared.run.Step.{Step}

-- an int
abbrev pub int_of : ℕ → Number
int_of n = record { kind = Int; value = pos n }

-- the value of a variable
abbrev pub value_at : List Number → ℕ → Number
value_at values n = unwrap_or (slice_get values n) (int_of 0)

-- a run that has come so far: the values of the variables, the bytes printed, and what is left of the budget
pub record State : Type 0 where
  pub values : List Number
  pub printed : List ℕ
  pub left : ℕ

abbrev pub with_value : State → ℕ → Number → State
with_value s n value = record { values = slice_set s.values n value; printed = s.printed; left = s.left }

-- an end, and the values of the variables then
pub record Ended : Type 0 where
  pub end : FirstEnd
  pub values : List Number

-- the budget is spent: what is left does not fit the next charge
abbrev pub spent_end : List ℕ → ℕ → FirstEnd
spent_end printed left = record { printed = printed; result = None; spent = true; left = left }

abbrev pub done_end : Option Number → List ℕ → ℕ → FirstEnd
done_end result printed left = record { printed = printed; result = result; spent = false; left = left }

abbrev pub spent_at : State → Ended
spent_at s = record { end = spent_end s.printed s.left; values = s.values }

abbrev pub done_at : Option Number → State → Ended
done_at result s = record { end = done_end result s.printed s.left; values = s.values }

-- A charge is taken from what is left, and one that does not fit ends the run.
abbrev pub charged : ℕ → State → (State → Ended) → Ended
charged n s go = if nat_lt s.left n then spent_at s else go (record { values = s.values; printed = s.printed; left = s.left - n })

abbrev pub operated : FirstOp → Number → Number → Number
operated Add a b = sum a b
operated Sub a b = difference a b
operated Mul a b = product a b

-- An expression charges 1 for itself, and an operator then 1 for each operand, the left one first.
abbrev pub evaluated : FirstExpr → State → (Number → State → Ended) → Ended
evaluated (Name n) s go = charged 1 s (λ s. go (value_at s.values n) s)
evaluated (Literal v) s go = charged 1 s (λ s. go (int_of v) s)
evaluated (NameName n op m) s go = charged 1 s (λ s. charged 1 s (λ s. charged 1 s (λ s. go (operated op (value_at s.values n) (value_at s.values m)) s)))
evaluated (NameNumber n op v) s go = charged 1 s (λ s. charged 1 s (λ s. charged 1 s (λ s. go (operated op (value_at s.values n) (int_of v)) s)))
evaluated (NumberName v op n) s go = charged 1 s (λ s. charged 1 s (λ s. charged 1 s (λ s. go (operated op (int_of v) (value_at s.values n)) s)))

-- what `println` prints of an int
abbrev pub line_of : Number → List ℕ
line_of value = signed_decimal value.value ++ 10 ∷ []

-- A line costs 1 for each 16 bytes of it, and is printed after that.
abbrev pub printing : Number → State → (State → Ended) → Ended
printing value s go = charged (length (line_of value) / 16) s (λ s. go (record { values = s.values; printed = s.printed ++ line_of value; left = s.left }))

-- A statement charges 1 for itself. `name++` and `name = e` then charge 1 for the variable, and `println(e)` charges 1 for the call; what is evaluated comes
-- after that, and the effect last.
abbrev pub body_meaning : List FirstStmt → State → Ended
body_meaning [] s = done_at None s
body_meaning (Increment n ∷ body) s = charged 1 s (λ s. charged 1 s (λ s. body_meaning body (with_value s n (sum (value_at s.values n) (int_of 1)))))
body_meaning (Assign n e ∷ body) s = charged 1 s (λ s. charged 1 s (λ s. evaluated e s (λ value s. body_meaning body (with_value s n value))))
body_meaning (Print e ∷ body) s = charged 1 s (λ s. charged 1 s (λ s. evaluated e s (λ value s. printing value s (λ s. body_meaning body s))))
body_meaning (Return e ∷ body) s = charged 1 s (λ s. evaluated e s (λ value s. done_at (Some value) s))

-- A call charges 1 for the name of its function.
abbrev pub call_meaning : FirstFunc → State → Ended
call_meaning func s = charged 1 s (λ s. body_meaning func.body s)

-- the call of the function of that number
abbrev pub called_meaning : Option FirstFunc → State → Ended
called_meaning None s = done_at None s
called_meaning (Some func) s = call_meaning func s

abbrev pub run_meaning : FirstFile → ℕ → List Number → ℕ → Ended
run_meaning file function values left = called_meaning (slice_get file.functions function) (record { values = values; printed = []; left = left })

-- the meaning of a body whose first statement ended so, and of which the rest is left
abbrev pub after_step : Step → State → List FirstStmt → Ended
after_step step s rest = if step.returns then done_at step.value s else body_meaning rest s
