-- The state of the machine as a plain value. Assumes nothing.
use Rattle.std.specs.Prelude.{ℕ, [], replicate}
use Rattle.steps.specs.State as model
use Rattle.state.specs.declared.machine_state.State.{State}
use Rattle.state.specs.Stacks.{entries}
use Rattle.state.specs.Stores.{facts_of}
use Rattle.state.specs.Histories.{firings_of}

abbrev pub state : State → model.State
state s = record { stack = entries s.stack; store = facts_of s.store; cells = s.cells.contents; history = firings_of s.history; next = s.store.next }

-- the state before anything was done, with the whole content of a kind
abbrev pub fresh : ℕ → model.State
fresh whole = record { stack = []; store = []; cells = replicate 32 whole; history = []; next = 1 }
