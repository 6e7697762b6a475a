use Rattle.std.proofs.Common.{rules}
use Rattle.gno_first.specs.Declaring.{with_names, name_in}
use Rattle.gno_first.specs.Form.{function_in, file_with}
use Rattle.gno_first.specs.Options.{each}
use Rattle.gno_first.proofs.Each.{fails_with}
use Rattle.gno_first.proofs.FormLaws.{file_no_functions, file_no_names, file_is}
use Rattle.gno_first.proofs.first.file_with.Goals as goal

pub returns-in_err-functions : goal.returns-in_err-functions
returns-in_err-functions c =
    let e = fails_with (each (function_in c.args.variables) c.args.declared.now) (file_with c.args.name.now c.args.variables c.args.declared.now) _
    (λ none. file_no_functions c.args.name.now c.args.variables c.args.declared.now none) c.in_err-functions.ensures in
    search (rules, e)

pub returns-in_err-with_functions : goal.returns-in_err-with_functions
returns-in_err-with_functions c =
    let e = fails_with (with_names c.args.variables (each name_in c.args.declared.now)) (file_with c.args.name.now c.args.variables c.args.declared.now) _
    (λ none. file_no_names c.args.name.now c.args.variables c.args.declared.now c.in_ok-functions.functions c.in_ok-functions.ensures none) c.in_err-with_functions.ensures in
    search (rules, e)

pub returns : goal.returns
returns c =
    rw (c.in_ok-copied.ensures.copy, c.in-Ok.ensures)
    (file_is c.args.name.now c.args.variables c.args.declared.now c.in_ok-functions.functions c.in_ok-with_functions.field-0 c.in_ok-functions.ensures c.in_ok-with_functions.ensures)
