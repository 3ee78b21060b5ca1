-- The engine on an accepted job, by the program that job, tables and work buffer stand for.
use Rattle.command.specs.declared.instruction.Instruction.{Instruction}
use Prim.Native.Nat.{ℕ, ◌≤◌, ◌<◌}
use mathlib.Core.Path.{◌≡◌, sym, ◌∙◌, ap, subst}
use mathlib.Core.Bool.{Bool, true, false}
use mathlib.Core.List.{List}
use mathlib.Core.Logic.{inl, inr, ⊎_elim}
use Rattle.std.proofs.Common.{None, Option}
use native.Mathlib.Omega.{arith}
use lib.ListN.{length}
use borrow.Author.Tests.{le-ltb}
use Rattle.model.specs.Table.{NODE}
use Rattle.model.specs.Command.{Command}
use Rattle.model.specs.Declared.{turns_of}
use Rattle.model.specs.Program.{Program, program_of}
use Rattle.model.specs.State.{State as Meant, idle, position_at, initial_state}
use Rattle.model.specs.Turn.{Turned as Rule, completed, stopped}
use Rattle.model.specs.Dispatch.{ready_count}
use Rattle.model.specs.Refusal.{accepted, decode_job, work_size}
use Rattle.model.specs.Valid.{ValidJob, Placed}
use Rattle.model.proofs.Naming.{turns-inside, wires-inside}
use Rattle.model.proofs.Growth.{length-handler}
use Rattle.model.proofs.Positions.{Idles, program-jumps, initial_placed, turn-placed, monitored-placed, turn_idles, monitored_idles}
use Rattle.model.proofs.Valid.{job-valid, limits}
use Rattle.model.proofs.Ways.{Keeps}
use Rattle.command.specs.Instructions.{fetched_of, command_in}
use Rattle.tables.specs.Tables.{count_in}
use Rattle.tables.specs.Programs.{program_in}
use Rattle.tables.specs.Stands.{Stands}
use Rattle.handlers.specs.Loading.{handlers_in, loaded}
use Rattle.job.specs.Prepared.{Prepared, turn_in}
use Rattle.job.proofs.Prepared.{prepared}
use Rattle.entries.specs.Entries.{Comes, rule_of, state_after}
use Rattle.memory.specs.Ready.{Among}
use Rattle.engine.specs.declared.State.{State}
use Rattle.engine.specs.declared.Turned.{Turned}
use Rattle.engine.specs.Engine.{view, CountsReady, Turns}
use Rattle.engine.specs.Accepted.{Led, at_start, after_turn, EngineHolds}

-- what a completed turn keeps, a stopped one keeps too
kept-after : (Q : Meant → Type 0) (s : Meant) → Q s → (t : Rule) → Keeps Q t → Q (state_after s t)
kept-after Q s h (completed e s') k = k
kept-after Q s h (stopped j e) k = h

-- by the way a run is made
by_mode : (Q : Rule → Type 0) (P : Program) (s : Meant) (n : ℕ) → Q (rule_of true P s n) → Q (rule_of false P s n) → (monitored : Bool)
    → Q (rule_of monitored P s n)
by_mode Q P s n m u true = m
by_mode Q P s n m u false = u

module _ (job t w : List ℕ) (past : List Command) (e : decode_job job ≡ accepted past) (stands : Stands t past) (long : work_size ≤ length w)
  where
    abbrev P : Program
    P = program_of past

    abbrev work : List ℕ
    work = loaded w past

    p : Prepared job t w work past
    p = prepared job t w past e stands long

    valid : ValidJob past
    valid = job-valid job past e

    -- the nodes are those of the tables
    nodes_in_lem : P.nodes ≡ count_in t NODE
    unfolding program_of
    nodes_in_lem = sym (stands.counts NODE (omega arith))

    node-among : (n : ℕ) → n < P.nodes → Among t n
    unfolding program_of
    node-among n h =
        let few = (limits past valid.commands).nodes in
        let same = stands.counts NODE (omega arith) in
        record {
          inside = omega arith;
          few = omega arith;
          wires = λ port k is. omega (arith, wires-inside past valid.commands n port k (sym (stands.wires n port k) ∙ is));
        }

    -- no handler reaches to the position of an idle node
    short : (n : ℕ) → length (P.handler n) < idle
    unfolding program_of
    short n = omega (arith, length-handler past n, (limits past valid.commands).handlers n)

    comes_by :
        (s : State) (fetched : Option Instruction) (n : ℕ) (monitored : Bool) (x : Turned)
        → fetched_of fetched ≡ command_in (handlers_in job t work n) (position_at (view s) n) → Turns t fetched n monitored s x
        → Comes (view s) (rule_of monitored P (view s) n) x.outcome (view x.state)
    comes_by s fetched n monitored x f h =
        subst (λ (Q : Program). Comes (view s) (rule_of monitored Q (view s) n) x.outcome (view x.state)) p.program
        (h.comes (handlers_in job t work) f)

    -- at the end of its handler nothing is fetched
    ended : (n i : ℕ) → length (P.handler n) ≤ i → command_in (handlers_in job t work n) i ≡ None
    unfolding program_in
    ended n i l =
        let same : handlers_in job t work n ≡ P.handler n = ap (λ (Q : Program). Q.handler n) p.program in
        rw (same, le-ltb i (length (P.handler n)) l)

    -- a state that the engine leads to: its positions are inside their handlers, and the ready count is that of the state
    kept : (s : State) → Led job t work P.nodes s → Placed P (view s) × CountsReady t s
    kept s (at_start _ h) =
        (subst (Placed P) (sym (h.start (handlers_in job t work) ∙ ap initial_state p.program)) (initial_placed P), h.ready)
    kept _ (after_turn s led fetched n monitored x inside f h) =
        let before = kept s led in
        let jumps = program-jumps past valid in
        let leaves = (comes_by s fetched n monitored x f h).leaves in (
          subst (Placed P) (sym leaves) (kept-after (Placed P) (view s) before.0 (rule_of monitored P (view s) n)
              (by_mode (Keeps (Placed P)) P (view s) n (monitored-placed P jumps (view s) n before.0) (turn-placed P jumps (view s) n before.0)
              monitored)),
          h.ready (λ q. ⊎_elim inl (λ l. inr (f ∙ ended n (position_at (view s) n) l))
              (subst (Idles P (view s) n) (sym leaves) (kept-after (Idles P (view s) n) (view s) inl (rule_of monitored P (view s) n)
              (by_mode (Keeps (Idles P (view s) n)) P (view s) n (monitored_idles P (view s) n jumps (short n)) (turn_idles P (view s) n jumps (short n))
              monitored)) q)),
        )

    turn-node : (k : ℕ) → k < length (turns_of past) → turn_in job t k < P.nodes
    unfolding program_of
    turn-node k h = omega (arith, p.turn k h, turns-inside past valid.commands k h)

pub engine_holds : EngineHolds
engine_holds job t w past e stands long =
    record {
      start = λ s h. h.start (handlers_in job t (loaded w past)) ∙ ap initial_state (p job t w past e stands long).program;
      turn = comes_by job t w past e stands long;
      ready = λ s led. (kept job t w past e stands long s led).1 ∙ ap (λ (k : ℕ). ready_count k (view s)) (sym (nodes_in_lem job t w past e stands long));
      placed = λ s led. (kept job t w past e stands long s led).0;
      among = node-among job t w past e stands long;
      nodes = turn-node job t w past e stands long;
    }
