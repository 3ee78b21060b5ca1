-- Decoding two jobs that differ only in the start of one variable: they are refused alike, or have the same commands but for that start.
use Prim.Native.Nat.{ℕ, zero, suc, ◌+◌, ◌≤◌}
use mathlib.Core.Path.{◌≡◌, refl, ◌∙◌}
use mathlib.Core.Logic.{inl, inr}
use mathlib.Core.Bool.{true, ◌||◌}
use mathlib.Core.List.{List, [], ◌∷◌}
use Rattle.std.proofs.Common.{Option, None, Some}
use native.Mathlib.Omega.{arith}
use lib.Dec.{ltb, eqb}
use lib.ListN.{length}
use borrow.Author.Tests.{ltb-false}
use Rattle.model.specs.Table.{TURN, max_job}
use Rattle.model.specs.Command.{Command, Parsed, whole, unknown, cut_short, read_command}
use Rattle.model.specs.Declared.{shared, is_shared}
use Rattle.model.specs.Refusal.{violation, Refusal, refuse, Decoded, accepted, rejected, decode_next, decode_read, decode_from, decode}
use Rattle.model.specs.Refusal.{accept_unless, and_then, far_jump, unused_permission, decode_job, Sizes, short_buffer, short_buffer_for}
use Rattle.model.specs.Refusal.{decode_for}
use Rattle.model.specs.DispatchResult.{bad_budget, written_turn, decode_under, decode_dispatch}
use Rattle.model.specs.Secrecy.{SameBut, Secret}
use Rattle.model.proofs.Reading.{read_at}
use Rattle.model.proofs.Ways.{either_two}
use Rattle.model.proofs.Restarting.{revised, is_declaration_of, restarted, count_re, violation-both, far_re, unused_re, written_re}
use Rattle.model.proofs.ReadingBoth.{here, spells_leads, leads-later, Varied, start_at, varied}
use Rattle.model.proofs.WalkingBoth.{OnWay, other}

-- two decodings: the same commands but for the start of the variable, which is shared; or the same refusal
abbrev pub Matches : ℕ → ℕ → Decoded → Decoded → Type 0
Matches x v (accepted past) (accepted past') = (past' ≡ restarted x v past) × (shared past x ≡ true)
Matches x v (accepted past) (rejected r) = ⊥
Matches x v (rejected r) (accepted past) = ⊥
Matches x v (rejected r) (rejected r') = r ≡ r'

-- two jobs that vary in the start of a shared variable
module _
    (job job' : List ℕ) (x : ℕ) (c₀ : Command) (v : ℕ) (D : Varied job job' x c₀ v) (shared_scope : is_shared c₀.operands.first ≡ true)
  where
    -- decoding both from a place on
    abbrev From : ℕ → ℕ → List Command → Type 0
    From fuel place past = Matches x v (decode_from fuel job place past) (decode_from fuel job' place (restarted x v past))

    -- at the end of the job the VAR is behind
    at-end : (place : ℕ) (past : List Command) → OnWay job job' x c₀ v D place past → length job ≤ place → shared past x ≡ true
    at-end place past (inl l) h =
        let r = read_at job c₀.place c₀ D.next D.reads in
        absurd (omega (arith, r.later, r.inside, leads-later l))
    at-end place past (inr b) h = b.scope ∙ shared_scope

    from_matches : (fuel place : ℕ) (past : List Command) → OnWay job job' x c₀ v D place past → length job ≤ place + fuel
        → From fuel place past
    unfolding decode_from restarted
    from_matches zero place past w enough = (refl, at-end place past w (omega arith))
    from_matches (suc fuel) place past w enough =
        rw (← D.same_length)
        (either_two (Matches x v) (ltb place (length job)) _ (accepted past) _ (accepted (restarted x v past))
        (λ t. by_read (read_command job place) refl (from_matches fuel))
        (λ t. (refl, at-end place past w (ltb-false place (length job) t))))
      where
        by_violation :
            (c : Command) (next j : ℕ) → From fuel next (c ∷ past)
            → Matches x v (decode_next (decode_from fuel job) place past c next j)
            (decode_next (decode_from fuel job') place (restarted x v past) (revised (is_declaration_of x past c) v c) next j)
        by_violation c next zero m = m
        by_violation c next (suc j) m = refl

        by_read :
            (p : Parsed) → read_command job place ≡ p
            → ((place : ℕ) (past : List Command) → OnWay job job' x c₀ v D place past → length job ≤ place + fuel → From fuel place past)
            → Matches x v (decode_read (decode_from fuel job) place past (read_command job place))
            (decode_read (decode_from fuel job') place (restarted x v past) (read_command job' place))
        by_read unknown e ih = rw (e, other job job' x c₀ v D place past w unknown e) refl
        by_read cut_short e ih = rw (e, other job job' x c₀ v D place past w cut_short e) refl
        by_read (whole c next) e ih =
            let o = other job job' x c₀ v D place past w (whole c next) e in
            rw (e, o.0, violation-both x v past c)
            (by_violation c next (violation past c) (ih next (c ∷ past) o.1 (omega (arith, (read_at job place c next e).later))))

-- a further test that gives the same of both
and_then_matches :
    (x v : ℕ) (test test' : List Command → Option Refusal) → ((past : List Command) → test' (restarted x v past) ≡ test past)
    → (d d' : Decoded) → Matches x v d d' → Matches x v (and_then test d) (and_then test' d')
and_then_matches x v test test' h (accepted past) (accepted past') m = rw (m.0, h past) (by_test (test past))
  where
    by_test : (o : Option Refusal) → Matches x v (accept_unless past o) (accept_unless (restarted x v past) o)
    by_test None = (refl, m.1)
    by_test (Some r) = refl
and_then_matches x v test test' h (accepted past) (rejected r) m = absurd m
and_then_matches x v test test' h (rejected r) (accepted past) m = absurd m
and_then_matches x v test test' h (rejected r) (rejected r') m = m

-- the decodings of the two jobs
module _ (job job' : List ℕ) (x at : ℕ) (S : Secret job x at) (same : SameBut at job job') where
  -- the start in the second job
  abbrev pub other_start : ℕ
  other_start = start_at job' S.declaration.place

  -- after the tests 1 to 8 and 15
  eight : Matches x other_start (decode job) (decode job')
  unfolding decode restarted
  eight =
      let D = varied job job' x at S same in
      rw (← same.same_length)
      (either_two (Matches x other_start) (eqb (length job) 0 || ltb max_job (length job)) (rejected (refuse 1 0)) _ (rejected (refuse 1 0)) _
      (λ _. refl)
      (λ _. from_matches job job' x S.declaration other_start D S.shared_scope (length job) 0 [] (inl (spells_leads D.spelled here))
      (omega arith)))

  pub job_matches : Matches x other_start (decode_job job) (decode_job job')
  unfolding decode_job
  job_matches =
      and_then_matches x other_start unused_permission unused_permission (unused_re x other_start) (and_then far_jump (decode job))
      (and_then far_jump (decode job'))
      (and_then_matches x other_start far_jump far_jump (far_re x other_start) (decode job) (decode job') eight)

  -- with written turns, and dispatched, in buffers of the same lengths
  pub for_matches : (b : Sizes) → Matches x other_start (decode_for job b) (decode_for job' b)
  unfolding decode_for
  for_matches b =
      and_then_matches x other_start (short_buffer job b) (short_buffer job' b)
      (λ past. rw (← same.same_length, count_re x other_start TURN past)) (decode_job job) (decode_job job') job_matches

  pub dispatch_matches : (budget : ℕ) (b : Sizes) → Matches x other_start (decode_dispatch budget job b) (decode_dispatch budget job' b)
  unfolding decode_dispatch decode_under
  dispatch_matches budget b =
      either_two (Matches x other_start) (bad_budget budget) (rejected (refuse 13 0)) _ (rejected (refuse 13 0)) _ (λ _. refl)
      (λ _. and_then_matches x other_start (λ past. short_buffer_for job b budget) (λ past. short_buffer_for job' b budget)
      (λ past. rw same.same_length) (and_then written_turn (decode_job job)) (and_then written_turn (decode_job job'))
      (and_then_matches x other_start written_turn written_turn (written_re x other_start) (decode_job job) (decode_job job') job_matches))
