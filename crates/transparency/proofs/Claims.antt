-- Demand 3 of the code, from what the entry points promise and the model's demands 1 and 3.
use Prim.Native.Nat.{ℕ}
use mathlib.Core.Path.{◌≡◌, refl, sym, ap, subst, ◌∙◌}
use mathlib.Core.Logic.Iff
use mathlib.Core.Logic.{◌↔◌, ⊎_elim}
use native.Mathlib.Omega.{arith}
use Rattle.run.specs.Answers.{Told, refusal, answer, told_in, Call, call, Gives}
use Rattle.model.specs.Program.{Program}
use Rattle.model.specs.Turn.{Entry}
use Rattle.model.specs.Run.{Run}
use Rattle.model.specs.Refusal.{Refusal}
use Rattle.model.specs.Result.{Result, refused, ran, report, monitored, unmonitored, sizes_of}
use Rattle.model.specs.Transparency.{FirstForbidden, stopped_at, Comparison}
use Rattle.model.proofs.Logic.{not-both}
use Rattle.model.proofs.Conclusion.{demand1}
use Rattle.model.proofs.Transparency.{demand3}
use Rattle.transparency.specs.Claims.{TransparencyHolds, ExportsTransparent}

-- only a refused job tells a refusal
told-refused : (result : Result) (r : Refusal) → told_in result ≡ refusal r → result ≡ refused r
told-refused (refused q) r e = let same : q ≡ r = cc in rw same
told-refused (ran x trace snapshot) r e = let w : ◌≡◌ {A = ℕ} 0 1 = cc in absurd (omega arith)

-- a call that gives a result gives a refusal exactly if that is the result
pub gives-refused : (result : Result) (c : Call) → Gives result c → (r : Refusal) → Gives (refused r) c ↔ (result ≡ refused r)
gives-refused result c g r = (λ h. told-refused result r (sym g.told ∙ h.told), λ e. rw e at g)

-- stop and turns that are told
abbrev pub stop_in : Told → ℕ
stop_in (refusal r) = 0
stop_in (answer x) = x.stop

abbrev pub turns_in : Told → ℕ
turns_in (refusal r) = 0
turns_in (answer x) = x.turns

-- a call that gives the monitored run tells where it parts from the unmonitored one: by stop 1, and the turns before
pub parted :
    (P : Program) (u r : Run) (m : Call) → Comparison P u r → Gives (report P r) m → (n : ℕ)
    → FirstForbidden P u n ↔ ((e : Entry) × (m.told ≡ answer (record { stop = 1; turns = n; attempted = e })))
unfolding report
parted P u r m c g n =
    let told : (k : ℕ) → FirstForbidden P u k → m.told ≡ told_in (stopped_at P u k) = λ k first. g.told ∙ ap told_in (c.stops k first) in (
      λ first. (_, told n first),
      λ one. ⊎_elim (λ f. subst (FirstForbidden P u) (ap turns_in (sym (told f.0 f.1) ∙ one.1)) f.1)
          (λ all. let f = c.stop_one.0 (ap stop_in (sym g.told ∙ one.1)) in
          not-both (all f.0 f.1.is_completed) f.1.not_permitted)
          c.decided,
    )

pub transparency : TransparencyHolds
transparency job m u gm gu =
    let both = demand3 job m.before u.before in
    let refuses_m = gives-refused (monitored job (sizes_of m.before)) m gm in
    let refuses_u = gives-refused (unmonitored job (sizes_of u.before)) u gu in
    record {
      monitored_refuses = λ r. Iff.trans (refuses_m r) ((demand1 job m.before).concluded.monitored_refuses r);
      unmonitored_refuses = λ r. Iff.trans (refuses_u r) ((demand1 job u.before).concluded.unmonitored_refuses r);
      refuse_alike = λ same r. Iff.trans (Iff.trans (refuses_m r) (both.refuse_alike same r)) (Iff.symm (refuses_u r));
      both_run = λ past a b.
          let run = both.both_run past a b in
          let c = run.comparison in
          let g = rw run.monitored_reports at gm in
          record {
            unmonitored_runs = rw run.unmonitored_reports at gu;
            decided = c.decided;
            identical = λ all. rw (c.identical all) at g;
            stops = λ n first. rw (c.stops n first) at g;
            parts = parted _ _ _ m c g;
          };
    }

pub exports_transparency : ExportsTransparent
exports_transparency job before after before' after' numbers numbers' tm lm tu lu =
    let m = told_in (monitored job (sizes_of before)) in
    let u = told_in (unmonitored job (sizes_of before')) in (
      m,
      u,
      tm,
      tu,
      transparency job (call before after m) (call before' after' u) (record { told = refl; left = lm })
          (record { told = refl; left = lu }),
    )
