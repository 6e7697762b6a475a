use Rattle.std.proofs.Common.{subst}
use Rattle.gno_values.specs.NoValues.{IsNoValue}
use Rattle.gno_values.proofs.NoValues.{builtin, cross, crossing, open_array, «package», realm, results, type}
use Rattle.gno_values.proofs.operands.refuse.Goals as goal

pub returns-in-Value : goal.returns-in-Value
returns-in-Value c table y is no_value = absurd (subst IsNoValue c.in-Value.is no_value)

pub returns-in-Method : goal.returns-in-Method
returns-in-Method c table y is no_value = absurd (subst IsNoValue c.in-Method.is no_value)

pub returns-in-Results : goal.returns-in-Results
returns-in-Results c table y is no_value = results table c.args.faults.now _ c.args.x.now y is c.in-Results.pos c.in-Results.of c.in-Results.form c.in-Results.is c.note.ensures

pub returns-in-Type : goal.returns-in-Type
returns-in-Type c table y is no_value = type table c.args.faults.now _ c.args.x.now y is c.in-Type.pos c.in-Type.of c.in-Type.is c.note-in-Type.ensures

pub returns-in-OpenArray : goal.returns-in-OpenArray
returns-in-OpenArray c table y is no_value = open_array table c.args.faults.now _ c.args.x.now y is c.in-OpenArray.pos c.in-OpenArray.element c.in-OpenArray.is c.note-in-OpenArray.ensures

pub returns-in-Package : goal.returns-in-Package
returns-in-Package c table y is no_value = «package» table c.args.faults.now _ c.args.x.now y is c.in-Package.pos c.in-Package.path c.in-Package.is c.note-in-Package.ensures

pub returns-in-Builtin : goal.returns-in-Builtin
returns-in-Builtin c table y is no_value = builtin table c.args.faults.now _ c.args.x.now y is c.in-Builtin.pos c.in-Builtin.name c.in-Builtin.is c.note-in-Builtin.ensures

pub returns-in-Crossing : goal.returns-in-Crossing
returns-in-Crossing c table y is no_value = crossing table c.args.faults.now _ c.args.x.now y is c.in-Crossing.pos c.in-Crossing.of c.in-Crossing.code c.in-Crossing.is c.note-in-Crossing.ensures

pub returns-in-Cross : goal.returns-in-Cross
returns-in-Cross c table y is no_value = cross table c.args.faults.now _ c.args.x.now y is c.in-Cross.pos c.in-Cross.is c.note-in-Cross.ensures

pub returns-in-Realm : goal.returns-in-Realm
returns-in-Realm c table y is no_value = realm table c.args.faults.now _ c.args.x.now y is c.in-Realm.pos c.in-Realm.is c.note-in-Realm.ensures
