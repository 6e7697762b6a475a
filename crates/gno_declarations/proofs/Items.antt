-- The items of lists take a token.
use Rattle.std.proofs.Common.{◌≡◌, refl, ℕ, ◌<◌, List, length}
use Rattle.gno_grammar.specs.Readers.{got}
use Rattle.gno_reader.specs.Scope.{Scope, reads}
use Rattle.gno_reader.proofs.Turns.{takes}
use Rattle.gno_rules.specs.Declarations.{const, var, type, import_spec}
use Rattle.gno_rule_laws.proofs.DeclarationsSound.{sound_declaration, sound_file}
use Rattle.gno_rule_laws.proofs.TypeEnds.{shown_sets, shown_parts, shown_declarations}
use Rattle.gno_scan.specs.declared.token.Token.{Token}
use Rattle.gno_tree.specs.declared.declaration.ConstSpec.{ConstSpec}
use Rattle.gno_tree.specs.declared.declaration.TypeSpec.{TypeSpec}
use Rattle.gno_tree.specs.declared.declaration.VarSpec.{VarSpec}
use Rattle.gno_tree.specs.declared.file.Import.{Import}

pub takes_const : (scope : Scope) (ts : List Token) (v : ConstSpec) (rest : List Token) → reads scope const ts ≡ got v rest → length rest < length ts
unfolding shown_sets shown_parts shown_declarations
takes_const scope ts v rest e = takes scope const (sound_declaration scope.text).0.1.1.0 refl ts v rest e

pub takes_type : (scope : Scope) (ts : List Token) (v : TypeSpec) (rest : List Token) → reads scope type ts ≡ got v rest → length rest < length ts
unfolding shown_sets shown_parts shown_declarations
takes_type scope ts v rest e = takes scope type (sound_declaration scope.text).1.0.1.1.0 refl ts v rest e

pub takes_var : (scope : Scope) (ts : List Token) (v : VarSpec) (rest : List Token) → reads scope var ts ≡ got v rest → length rest < length ts
unfolding shown_sets shown_parts shown_declarations
takes_var scope ts v rest e = takes scope var (sound_declaration scope.text).1.1.1.1.0 refl ts v rest e

pub takes_import_spec : (scope : Scope) (ts : List Token) (v : Import) (rest : List Token) → reads scope import_spec ts ≡ got v rest → length rest < length ts
unfolding shown_sets shown_parts shown_declarations
takes_import_spec scope ts v rest e = takes scope import_spec (sound_file scope.text).1.0.1.0.1.1.0 refl ts v rest e
