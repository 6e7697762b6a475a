use Rattle.std.proofs.Common.{◌≡◌, ◌∙◌, ◌∷◌, ◌++◌, [], ap, sym, subst, arith, length, length-append, List}
use Rattle.std.specs.Prelude.{Option, Some, None, IfSome}
use Rattle.gno_items.specs.declared.memory.Package.{Package}
use Rattle.gno_items.specs.Memory.{package_of}
use Rattle.gno_items.specs.Well.{IsWell, IsWellPackage}
use Rattle.gno_table.proofs.AddedRows.{IsWell-append}
use Rattle.gno_table.proofs.FoundPackages.{found_none, is_found, new_path, none_left, not_at, one_more, same_package, source_is_of}
use Rattle.gno_table.proofs.SourceRows.{sources_are}
use Rattle.gno_table.proofs.loading.guess.Goals as goal

pub returns-in_default-remove-clause-few : goal.returns-in_default-remove-clause-few
returns-in_default-remove-clause-few c = omega (arith, c.loop-order.invariant.count, c.loop-order-test.true)

pub returns-in_default-remove-clause-finds : goal.returns-in_default-remove-clause-finds
returns-in_default-remove-clause-finds c memory a =
    let order = c.loop-order.order-counter in
    ap Some (c.loop-order.invariant.found memory a ∙ none_left memory order (sym (sources_are c.args.rows.now memory order a) ∙ sym (c.loop-order.invariant.left order (omega arith)) ∙ sym c.in_default-remove.ensures.value))

pub returns-in_default-2-clause-finds : goal.returns-in_default-2-clause-finds
returns-in_default-2-clause-finds c memory a =
    let order = c.loop-order.order-counter in
    let of = source_is_of c.args.rows.now memory order c.in-Some.source a (sym (c.loop-order.invariant.left order (omega arith)) ∙ sym c.in-Some.ensures.value) in
    absurd (c.in_default-2.not-Some of.0 (c.in_ok-held.ensures.finds of.0 of.1.1 of.1.2 of.1.3))

pub returns-then-is_some-clause-finds : goal.returns-then-is_some-clause-finds
returns-then-is_some-clause-finds c memory a =
    let order = c.loop-order.order-counter in
    let of = source_is_of c.args.rows.now memory order c.in-Some.source a (sym (c.loop-order.invariant.left order (omega arith)) ∙ sym c.in-Some.ensures.value) in
    let same : c.in-Some-2.held ≡ of.0 = same_package _ _ (sym c.in-Some-2.is ∙ c.in_ok-held.ensures.finds of.0 of.1.1 of.1.2 of.1.3) in
    let none : package_of c.loop-order.packages c.as_slice.result.now ≡ None =
    (λ i. package_of (c.loop-order.invariant.found memory a i) ((c.as_slice.ensures ∙ ap (λ (p : Package). p.path) same) i)) ∙ new_path memory order of.0 a.well of.1.0 in
    absurd (is_found c.find.result (sym c.if-is_some.ensures) (c.find.ensures.found ∙ none))

pub loop-order-preserved : goal.loop-order-preserved
loop-order-preserved c =
    let order = c.loop-order.order-counter in
    record {
      well = subst (λ (ps : List Package). IsWell ps) (sym c.in-Ok-push.ensures.ok) (IsWell-append c.loop-order.packages c.in-Some-2.held c.loop-order.invariant.well
          (subst (λ (o : Option Package). IfSome o (λ held. IsWellPackage held)) c.in-Some-2.is c.in_ok-held.ensures.well)
          (found_none c.find.result (package_of c.loop-order.packages c.in-Some-2.held.path) (sym c.if-is_some.ensures) (c.find.ensures.found ∙ ap (package_of c.loop-order.packages) c.as_slice.ensures)));
      count = omega (arith, ap length c.in-Ok-push.ensures.ok, length-append {A = Package}, c.loop-order.invariant.count);
      left = λ k above. c.in-Some.ensures.updates.2 k (not_at order k above) ∙ c.loop-order.invariant.left k (omega (arith, above));
      found = λ memory a.
          let of = source_is_of c.args.rows.now memory order c.in-Some.source a (sym (c.loop-order.invariant.left order (omega arith)) ∙ sym c.in-Some.ensures.value) in
          let same : c.in-Some-2.held ≡ of.0 = same_package _ _ (sym c.in-Some-2.is ∙ c.in_ok-held.ensures.finds of.0 of.1.1 of.1.2 of.1.3) in
          let so = c.loop-order.invariant.found memory a in
          c.in-Ok-push.ensures.ok ∙ (λ i. so i ++ same i ∷ []) ∙ sym (one_more memory order of.0 of.1.0);
    }
