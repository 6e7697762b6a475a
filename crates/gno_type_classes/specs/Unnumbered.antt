-- What the typing rules see of a table. This project's own.
use Rattle.std.specs.Prelude.{[]}
use Rattle.gno_terms.specs.Tables.{Table}

-- The definitions alone. A rule says the same of a table and of each later one that adds types.
abbrev pub unnumbered : Table → Table
unnumbered table = record { types = []; definitions = table.definitions }
