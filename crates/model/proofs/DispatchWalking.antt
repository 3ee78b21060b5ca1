-- A dispatched job is decoded to the commands that it accepts, or to its refusal by the first test that it fails; and conversely.
use Prim.Native.Nat.{ℕ}
use mathlib.Core.Path.{◌≡◌, refl, sym, ◌∙◌}
use mathlib.Core.Bool.{Bool, true, false, cond, ◌||◌}
use mathlib.Core.List.{List}
use Rattle.std.proofs.Common.{None}
use native.Mathlib.Omega.{arith}
use lib.Dec.{ltb, eqb}
use borrow.Author.Tests.{eqb-true, eqb-false, eq-eqb, ltb-true, ltb-false, lt-ltb}
use Rattle.model.specs.Table.{max_turns}
use Rattle.model.specs.Command.{Command}
use Rattle.model.specs.Refusal.{Refusal, refuse, Decoded, accepted, rejected, and_then, decode_job, Sizes, short_buffer_for, decode_for}
use Rattle.model.specs.Conclusion.{Refuses, Accepts}
use Rattle.model.specs.DispatchResult.{written_turn, decode_under, decode_dispatch}
use Rattle.model.specs.DispatchConclusion.{HasBudget, longest, DispatchRefuses, no_budget, large_budget, as_written, holds_turn}
use Rattle.model.specs.DispatchConclusion.{has_short_buffer, DispatchAccepts}
use Rattle.model.proofs.Logic.{or_second}
use Rattle.model.proofs.Walking.{Decides, decides_on, and_then_walked, decode_for_walked}
use Rattle.model.proofs.Retracing.{accepts_decodes, refuses_decodes}
use Rattle.model.proofs.Valid.{job-valid, limits}
use Rattle.model.proofs.Results.{decode_for_rejected, decode_for_accepted}
use Rattle.model.proofs.DispatchDecoding.{budget-good, decode_dispatch_bad, decode_dispatch_good, decode_under_rejected}
use Rattle.model.proofs.DispatchDecoding.{decode_under_turn, decode_under_later}

-- buffers that are long enough for every job refuse none
longest_decodes : (job : List ℕ) → decode_for job longest ≡ decode_job job
longest_decodes job = by_job (decode_job job) refl
  where
    by_job : (d : Decoded) → decode_job job ≡ d → decode_for job longest ≡ d
    by_job (accepted past) e =
        let l = (limits past (job-valid job past e).commands).turns in
        decode_for_accepted job longest past e (omega arith) (omega arith) (omega arith)
    by_job (rejected r) e = decode_for_rejected job longest r e

pub longest-accepted : (job : List ℕ) (past : List Command) → Accepts job longest past → decode_job job ≡ accepted past
longest-accepted job past a = sym (longest_decodes job) ∙ accepts_decodes job longest past a

module _ (budget : ℕ) (job : List ℕ) (b : Sizes) where
  -- a dispatched job is decoded to the commands that it accepts, or to its refusal
  abbrev pub Walked : Decoded → Type 0
  Walked = Decides (DispatchAccepts budget job b) (DispatchRefuses budget job b)

  under_walked : HasBudget budget → Walked (decode_under budget job b)
  unfolding decode_under
  under_walked h =
      and_then_walked (λ past. Accepts job longest past × (written_turn past ≡ None)) (DispatchAccepts budget job b)
      (DispatchRefuses budget job b) (λ past. short_buffer_for job b budget) (and_then written_turn (decode_job job))
      (λ past q e. record { has_budget = h; accepts = q.0; without_turns = q.1; buffers = e })
      (λ past r q e. has_short_buffer h past r q.0 q.1 e)
      (and_then_walked (Accepts job longest) (λ past. Accepts job longest past × (written_turn past ≡ None)) (DispatchRefuses budget job b)
      written_turn (decode_job job) (λ past q e. (q, e)) (λ past r q e. holds_turn h past r q e)
      (decides_on (Accepts job longest) (Accepts job longest) (Refuses job longest) (DispatchRefuses budget job b) (decode_job job)
      (λ past q. q) (as_written h) (rw (longest_decodes job) at (decode_for_walked job longest))))

  pub walked : Walked (decode_dispatch budget job b)
  unfolding decode_dispatch
  walked = by_budget (eqb budget 0) refl (ltb max_turns budget) refl
    where
      by_budget : (t : Bool) → eqb budget 0 ≡ t → (u : Bool) → ltb max_turns budget ≡ u
          → Walked (cond (t || u) (rejected (refuse 13 0)) (decode_under budget job b))
      by_budget true p u q = no_budget (eqb-true budget 0 p)
      by_budget false p true q = large_budget (ltb-true max_turns budget q)
      by_budget false p false q =
          under_walked (record { lowest = omega (arith, eqb-false budget 0 p); highest = ltb-false max_turns budget q })

  -- and so conversely
  good : HasBudget budget → decode_dispatch budget job b ≡ decode_under budget job b
  good h = decode_dispatch_good budget job b (budget-good budget h.lowest h.highest)

  pub dispatch_accepts_decodes : (past : List Command) → DispatchAccepts budget job b past → decode_dispatch budget job b ≡ accepted past
  dispatch_accepts_decodes past a =
      good a.has_budget ∙ decode_under_later budget job b past (longest-accepted job past a.accepts) a.without_turns ∙ rw a.buffers

  pub dispatch_refuses_decodes : (r : Refusal) → DispatchRefuses budget job b r → decode_dispatch budget job b ≡ rejected r
  dispatch_refuses_decodes _ (no_budget e) = decode_dispatch_bad budget job b (rw (eq-eqb budget 0 e))
  dispatch_refuses_decodes _ (large_budget l) =
      decode_dispatch_bad budget job b (or_second (eqb budget 0) (ltb max_turns budget) (lt-ltb max_turns budget l))
  dispatch_refuses_decodes _ (as_written h r q) =
      good h ∙ decode_under_rejected budget job b r (sym (longest_decodes job) ∙ refuses_decodes q)
  dispatch_refuses_decodes _ (holds_turn h past r a e) = good h ∙ decode_under_turn budget job b past r (longest-accepted job past a) e
  dispatch_refuses_decodes _ (has_short_buffer h past r a e s) =
      good h ∙ decode_under_later budget job b past (longest-accepted job past a) e ∙ rw s
