-- What untyped values are, as code says it. This project's own.
use Rattle.gno_base.specs.declared.kind.Kind.{Kind}
use Rattle.gno_base.specs.declared.kind.Kind.TheVariants as k
use Rattle.gno_operations.specs.declared.classes.Untyped.{Untyped}
use Rattle.gno_operations.specs.declared.classes.Untyped.TheVariants.{Boolean, Whole, Text, Nothing}
use Rattle.gno_typing.specs.Binary as b
use Rattle.gno_typing.specs.Binary.{Untyped as u}
use Rattle.gno_typing.specs.declared.value.Waits.{Waits}
use Rattle.gno_typing.specs.declared.value.Waits.TheVariants as waits

abbrev pub class_of : Untyped → b.Untyped
class_of Boolean = u.Boolean
class_of Whole = u.Whole
class_of Text = u.Text
class_of Nothing = u.Nothing

-- by the kind of the default type
abbrev pub class_by_kind : Kind → b.Untyped
class_by_kind k.Bool = u.Boolean
class_by_kind k.Text = u.Text
class_by_kind kind = u.Whole

abbrev pub class_by_needs : Waits → b.Untyped
class_by_needs waits.Boolean = u.Boolean
class_by_needs (waits.Integer first) = u.Whole
