-- Every state of a run has 32 nodes and 64 variables.
use Prim.Native.Nat.{ℕ}
use mathlib.Core.Path.{◌∙◌}
use lib.ListN.{length-set, length-replicate}
use Rattle.model.specs.Table.{max_nodes, max_variables}
use Rattle.model.specs.Declared.{Instruction}
use Rattle.model.specs.Program.{Program}
use Rattle.model.specs.State.{State, position_at, first_queue, initial_state}
use Rattle.model.specs.Turn.{performed, instruction_at, turn}
use Rattle.model.specs.Permission.{monitored_turn}
use Rattle.model.specs.Valid.{Sized}
use Rattle.model.proofs.Lists.{length-tabulate}
use Rattle.model.proofs.Turns.{length-delivered}
use Rattle.model.proofs.Ways.{Keeps, performed_by, turn_by, monitored_by}

-- the start
pub initial_sized : (P : Program) → Sized (initial_state P)
unfolding initial_state
initial_sized P =
    record {
      position = length-replicate {A = ℕ} max_nodes 255;
      accumulator = length-replicate {A = ℕ} max_nodes 0;
      message = length-replicate {A = ℕ} max_nodes 0;
      queue = length-tabulate max_nodes (first_queue P);
      variable = length-tabulate max_variables P.start_value;
    }

-- a handler command
performed_sized : (P : Program) (s : State) (n : ℕ) (i : Instruction) → Sized s → Sized (performed P s n i)
performed_sized P s n i z =
    performed_by Sized P s n i
    (λ a. record {
      position = simp length-set z.position;
      accumulator = simp length-set
          z.accumulator;
      message = z.message;
      queue = z.queue;
      variable = z.variable;
    })
    (λ x. record {
      position = simp length-set z.position;
      accumulator = z.accumulator;
      message = z.message;
      queue = z.queue;
      variable = simp length-set z.variable;
    })
    (record {
      position = simp length-set z.position;
      accumulator = z.accumulator;
      message = z.message;
      queue = z.queue;
      variable =
          z.variable;
    })
    (λ j. record {
      position = simp length-set z.position;
      accumulator = z.accumulator;
      message = z.message;
      queue = z.queue;
      variable = z.variable;
    })
    (λ e. record {
      position = simp length-set z.position;
      accumulator = z.accumulator;
      message = z.message;
      queue = length-delivered _
          _ s.queue max_nodes ∙ z.queue;
      variable = z.variable;
    })

-- a turn keeps the sizes
pub turn_sized : (P : Program) (s : State) (n : ℕ) → Sized s → Keeps Sized (turn P s n)
turn_sized P s n z =
    turn_by (Keeps Sized) P s n (λ p w. tt)
    (λ p w. record {
      position = simp length-set z.position;
      accumulator = simp length-set z.accumulator;
      message = simp length-set
          z.message;
      queue = simp length-set z.queue;
      variable = z.variable;
    })
    (λ l f. tt)
    (λ l f. performed_sized P s n (instruction_at P n (position_at s n)) z)
    (λ l. record {
      position = simp length-set z.position;
      accumulator = simp length-set z.accumulator;
      message = simp length-set
          z.message;
      queue = z.queue;
      variable = z.variable;
    })

pub monitored_sized : (P : Program) (s : State) (n : ℕ) → Sized s → Keeps Sized (monitored_turn P s n)
monitored_sized P s n z = monitored_by (Keeps Sized) P s n (turn_sized P s n z) (λ e. tt)
