use Rattle.std.proofs.Common.{◌≡◌, ap, true}
use Rattle.std.proofs.lemmas.Result.{on_ok_weaker}
use Rattle.gno_terms.specs.Tables.{deep, error_interface}
use Rattle.gno_type_rows.specs.RowTypes.{is_defined}
use Rattle.gno_promotion.proofs.Gathering.{is_a_defined, pushed_error, pushed_own, row_below}
use Rattle.gno_promotion.proofs.gather.push_members.Goals as goal

pub push_defined-requires : goal.push_defined-requires
push_defined-requires c =
    let h : is_defined c.args.term.now ≡ true = ap is_defined c.in-Defined.is in
    record {
      defined = record {
        type = deep c.args.rows.now.types c.args.term.now;
        is = c.requires.defined h;
        defined = is_a_defined c.args.rows.now c.args.term.now h;
        known = c.requires.known;
      };
    }

pub term-requires : goal.term-requires
term-requires c = row_below c.args.rows.now c.args.error error_interface c.requires.error

pub returns-in-Error : goal.returns-in-Error
returns-in-Error c = on_ok_weaker c.push_by_underlying.result
    (λ e. pushed_error c.args.rows.now c.args.term.now c.in-Error.is c.args.error c.requires.error c.term.result.now c.term.ensures.is c.term.ensures.parts
    c.args.way c.args.candidates.now.items c.push_by_underlying.new.candidates.items e)
    c.push_by_underlying.ensures

pub returns-in_default : goal.returns-in_default
returns-in_default c = on_ok_weaker c.push_by_underlying-in_default.result
    (λ e. pushed_own c.args.rows.now c.args.term.now c.in_default.not-Error c.in_default.not-Defined c.requires.parts
    c.args.way c.args.candidates.now.items c.push_by_underlying-in_default.new.candidates.items e)
    c.push_by_underlying-in_default.ensures
