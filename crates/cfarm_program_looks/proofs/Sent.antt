-- What a text is made ready to may go to another thread: part by part, since a `search` through all of it runs out of steps.
use denote.Param.Send.{IsSend, IsSync, sendable}
use Rattle.std.proofs.Crossing.{crosses}
use Rattle.lang_base.specs.contracts.program.Program as program
use Rattle.rtl_language.specs.contracts.function.Function as function
use Rattle.c_program.proofs.term.Term.TheLaws.TheKnot.{send-Term as term_send}
use Rattle.c_program.proofs.action.Action.TheLaws.TheKnot.{crosses as knot}
use Rattle.c_program.specs.contracts.action.Called as called
use Rattle.c_program.specs.contracts.action.Value as value
use Rattle.c_program.specs.contracts.action.Action as action
use Rattle.c_program.specs.contracts.function.GlobalVariable as variable
use Rattle.c_program.specs.contracts.function.Function as defined
use Rattle.c_checker_rules.specs.contracts.program.CProgram as checked
use Rattle.farm_nodes_source.specs.contracts.source.Source as source
use Rattle.farm_nodes_source.specs.contracts.fault.SourceFault as fault

function_send : IsSend function.the_row
function_send = search (sendable, crosses) depth 60 fits 20000

function_sync : IsSync function.the_row
function_sync = search (sendable, crosses) depth 60 fits 20000

program_send : IsSend (program.the_row function.the_row)
program_send = search (function_send, sendable, crosses) depth 60 fits 20000

program_sync : IsSync (program.the_row function.the_row)
program_sync = search (function_sync, sendable, crosses) depth 60 fits 20000

called_send : IsSend called.the_field.row
called_send = search (term_send, sendable, crosses) depth 60 fits 20000

value_send : IsSend value.the_field.row
value_send = search (called_send, term_send, sendable, crosses) depth 60 fits 20000

action_send : IsSend action.the_field.row
action_send = search (knot, value_send, term_send, sendable, crosses) depth 60 fits 20000

variable_send : IsSend variable.the_row
variable_send = search (sendable, crosses) depth 60 fits 20000

defined_send : IsSend defined.the_field.row
defined_send = search (action_send, sendable, crosses) depth 60 fits 20000

checked_send : IsSend checked.the_row
checked_send = search (defined_send, variable_send, sendable, crosses) depth 60 fits 20000

pub fault_send : IsSend fault.the_row
fault_send = search (sendable, crosses) depth 60 fits 20000

pub source_send : IsSend source.the_row
source_send = search (checked_send, program_send, program_sync, sendable, crosses) depth 60 fits 20000
