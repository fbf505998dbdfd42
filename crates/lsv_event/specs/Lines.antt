-- The line of an event, by its form.
use Rattle.std.specs.Prelude.{ℕ, List}
use Rattle.lsv_event.specs.JsonLine.{json_line}
use Rattle.lsv_event.specs.SudoLine.{sudo_line}
use Rattle.lsv_event.specs.declared.event.Event.{Event}
use Rattle.lsv_event.specs.declared.event.Kind.{Kind}
use Rattle.lsv_event.specs.declared.event.Kind.TheVariants.{Sudo, Json}

-- the line of an event in this form
abbrev pub line_of : Kind → Event → List ℕ
line_of Sudo event = sudo_line event
line_of Json event = json_line event
