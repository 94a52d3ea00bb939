-- Places and shapes of the code as definitions speak of them.
use Rattle.theory_printing.specs.Brackets as brackets
use Rattle.htt_printer_pieces.specs.declared.brackets.Place.{Place}
use Rattle.htt_printer_pieces.specs.declared.brackets.Place.TheVariants as places
use Rattle.htt_printer_pieces.specs.declared.brackets.Shape.{Shape}
use Rattle.htt_printer_pieces.specs.declared.brackets.Shape.TheVariants as shapes

abbrev pub place_of : Place → brackets.Place
place_of places.Side = brackets.a_side
place_of places.Operand = brackets.an_operand
place_of places.Run = brackets.a_run
place_of places.Head = brackets.a_head

abbrev pub form_of : Shape → brackets.Form
form_of shapes.Atom = brackets.an_atom
form_of shapes.Application = brackets.an_application
form_of shapes.Prefixed = brackets.a_prefixed
form_of shapes.Operation = brackets.an_operation
form_of shapes.Binding = brackets.a_binding
