use Rattle.gno_pending.proofs.in_types.joined_in_type.Goals as goal

pub returns : goal.returns
returns c table u x y is left right = record { of = is; form = c.in_ok-form.ensures table u x.form y.form is.is left.form right.form }
