-- A package with other values.
use Rattle.std.proofs.Common.{List}
use Rattle.gno_base.specs.Number.{Number}
use Rattle.gno_items.specs.declared.memory.Package.{Package}

abbrev pub valued : Package → List Number → Package
valued p values = record p { values = values }
