-- What a command asks of its host for the file of a change under way.
use Rattle.std.specs.Prelude.{List, ℕ, Option, Some, None, Result, Ok, Err}
use Rattle.std.specs.FinMap.{get}
use Rattle.host_core.specs.State.{State}
use Rattle.conf_doc.specs.declared.configuration.Config.{Config}
use Rattle.conf_store.specs.Files.{intent_file}
use Rattle.conf_store.specs.Stored.{config_in}
use Rattle.conf_store.specs.declared.errors.StoredWhy.{StoredWhy}
use Rattle.gcu_words.specs.Targets.{Target, patched, replaced, resumed, rolled_back}
use Rattle.gcu_output.specs.declared.outcomes.Outcome.{Outcome}
use Rattle.gcu_output.specs.declared.outcomes.Outcome.TheVariants.{BadIntent, Interrupted, NoIntent}
use Rattle.gcu_inputs.specs.Asking.{Asking, a_file, asks, follows, ◌>>>◌}

-- ---- whether a change is under way

-- the bytes of its file, where it is there
abbrev pub intent_asked : State → Asking (Option (List ℕ))
intent_asked s = asks a_file (Ok (get s.files intent_file))

-- where one is, the command is refused
abbrev pub uninterrupted_answer : Option (List ℕ) → Result (Unit {0}) Outcome
uninterrupted_answer None = Ok tt
uninterrupted_answer (Some bytes) = Err Interrupted

-- no change is under way
abbrev pub uninterrupted : State → Asking (Unit {0})
uninterrupted s = intent_asked s >>> λ found. follows (uninterrupted_answer found)

-- where none is, a command that goes on with it is refused
abbrev pub interrupted_answer : Option (List ℕ) → Result (Unit {0}) Outcome
interrupted_answer None = Err NoIntent
interrupted_answer (Some bytes) = Ok tt

-- a change is under way
abbrev pub interrupted : State → Asking (Unit {0})
interrupted s = intent_asked s >>> λ found. follows (interrupted_answer found)

-- a change that was stopped is resumed, and no other plan is made meanwhile
abbrev pub gate_asked : Target → State → Asking (Unit {0})
gate_asked (patched path) s = uninterrupted s
gate_asked (replaced path) s = uninterrupted s
gate_asked (rolled_back name) s = uninterrupted s
gate_asked resumed s = interrupted s

-- ---- its goal

-- bytes that hold no configuration are refused
abbrev pub held_answer : Result Config StoredWhy → Result Config Outcome
held_answer (Ok c) = Ok c
held_answer (Err why) = Err BadIntent

-- the configuration that the file holds, where it is there
abbrev pub intended_answer : Option (List ℕ) → Result Config Outcome
intended_answer None = Err NoIntent
intended_answer (Some bytes) = held_answer (config_in bytes)

-- the goal of the change that was stopped
abbrev pub intended_asked : State → Asking Config
intended_asked s = intent_asked s >>> λ found. follows (intended_answer found)
