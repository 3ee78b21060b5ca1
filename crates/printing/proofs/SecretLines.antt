-- The lines of two runs that are alike but for one variable are equal but for that variable's.
use Prim.Native.Nat.{ℕ, zero, suc, ◌<◌}
use mathlib.Core.Path.{◌≡◌, refl, sym, ap, ap₂, ◌∙◌}
use mathlib.Core.Bool.{Bool, true, false}
use mathlib.Core.List.{List, [], ◌∷◌, ◌++◌, append_assoc, append-nil}
use native.Mathlib.Omega.{arith}
use lib.Dec.{eqb}
use lib.ListN.{length, get_or}
use lib.Seq.{get_or-set_other}
use borrow.Author.Tests.{eqb-true, eqb-false}
use Rattle.text.specs.Text.{line}
use Rattle.writing.specs.Writing.{joined}
use Rattle.writing.proofs.Putting.{same_first}
use Rattle.lines.specs.Lines.{var_word, end_line, tally_line}
use Rattle.model.specs.Command.{Command}
use Rattle.model.specs.Program.{Program, program_of}
use Rattle.model.specs.State.{State, variable_at, with_variable}
use Rattle.model.specs.Turn.{Entry, entry}
use Rattle.model.specs.Run.{Run, monitored_run}
use Rattle.model.specs.Output.{Answer, answer_in}
use Rattle.model.specs.Dispatch.{examined_in, monitored_dispatch}
use Rattle.model.specs.DispatchResult.{Handed}
use Rattle.model.specs.Refusal.{Refusal, accepted, rejected, Sizes, decode_for}
use Rattle.model.specs.Result.{report, monitored}
use Rattle.model.specs.Secrecy.{RunsAlike}
use Rattle.model.specs.Valid.{Bytes}
use Rattle.job.specs.declared.schedule.Schedule.{Schedule}
use Rattle.job.specs.declared.schedule.Schedule.TheVariants as s
use Rattle.job.specs.Scheduling.{decode_by}
use Rattle.turns.specs.Runs.{run_of}
use Rattle.run.proofs.Delivering.{handed-ran, handed-refused}
use Rattle.run.proofs.Alike.{CommandsAlike, alike, by_alike, both-refused}
use Rattle.printing.specs.Printing.{lines_by, result_lines, total_after, total_lines}
use Rattle.printing.specs.Meaning.{line_of_entry, line_of_node, line_of_variable, lines_of_entries, lines_of_state}
use Rattle.printing.specs.Meaning.{lines_of_run, lines_of_tallies, lines_of_ended, lines_of_job, lines_of_dispatch}
use Rattle.printing.specs.SecretLines.{SameButLine, lines_monitored, SecretLinesHold}
use Rattle.printing.proofs.Meaning.{lines_hold}
use Rattle.printing.proofs.Dispatched.{dispatch_lines_hold}

module _ (x : ℕ) where
  -- with the same text before, and behind
  but_behind : (text text' more : List ℕ) → SameButLine x text text' → SameButLine x (more ++ text) (more ++ text')
  but_behind text text' more b =
      record {
        front = more ++ b.front;
        value = b.value;
        value' = b.value';
        back = b.back;
        first = ap (λ (l : List ℕ). more ++ l) b.first ∙ sym (append_assoc more b.front _);
        second = ap (λ (l : List ℕ). more ++ l) b.second ∙ sym (append_assoc more b.front _);
      }

  but_before : (text text' more : List ℕ) → SameButLine x text text' → SameButLine x (text ++ more) (text' ++ more)
  but_before text text' more b =
      record {
        front = b.front;
        value = b.value;
        value' = b.value';
        back = b.back ++ more;
        first = ap (λ (l : List ℕ). l ++ more) b.first ∙ moved _;
        second = ap (λ (l : List ℕ). l ++ more) b.second ∙ moved _;
      }
    where
      moved : (v : ℕ) → (b.front ++ (line var_word (x ∷ v ∷ []) ++ b.back)) ++ more
          ≡ b.front ++ (line var_word (x ∷ v ∷ []) ++ (b.back ++ more))
      moved v =
          append_assoc b.front (line var_word (x ∷ v ∷ []) ++ b.back) more
          ∙ ap (λ (l : List ℕ). b.front ++ l) (append_assoc (line var_word (x ∷ v ∷ [])) b.back more)

  -- the lines of the variables
  module _ (s : State) (v : ℕ) where
    other-line : (y : ℕ) → ¬ (y ≡ x) → line_of_variable s y ≡ line_of_variable (with_variable s x v) y
    unfolding line_of_variable
    other-line y o = rw (get_or-set_other s.variable x y v 0 o)

    -- its own is the last of those up to it
    last_but : SameButLine x (joined (line_of_variable s) x ++ line_of_variable s x)
        (joined (line_of_variable (with_variable s x v)) x ++ line_of_variable (with_variable s x v) x)
    unfolding line_of_variable
    last_but =
        let earlier : joined (line_of_variable (with_variable s x v)) x ≡ joined (line_of_variable s) x =
        same_first (line_of_variable (with_variable s x v)) (line_of_variable s) x (λ y h. sym (other-line y (λ e. omega arith))) in
        record {
          front = joined (line_of_variable s) x;
          value = variable_at s x;
          value' = variable_at (with_variable s x v) x;
          back = [];
          first = ap (λ (l : List ℕ). joined (line_of_variable s) x ++ l) (sym (append-nil _));
          second = ap₂ (λ (l m : List ℕ). l ++ m) earlier (sym (append-nil _));
        }

    variables_but : (k : ℕ) → x < k → SameButLine x (joined (line_of_variable s) k) (joined (line_of_variable (with_variable s x v)) k)
    unfolding joined
    variables_but zero h = absurd (omega arith)
    variables_but (suc k) h = by_last (eqb k x) refl (variables_but k)
      where
        by_last :
            (b : Bool) → eqb k x ≡ b
            → (x < k → SameButLine x (joined (line_of_variable s) k) (joined (line_of_variable (with_variable s x v)) k))
            → SameButLine x (joined (line_of_variable s) k ++ line_of_variable s k)
            (joined (line_of_variable (with_variable s x v)) k ++ line_of_variable (with_variable s x v) k)
        by_last true e ih = rw (eqb-true k x e) last_but
        by_last false e ih =
            let o : ¬ (k ≡ x) = eqb-false k x e in
            rw (← other-line k o) (but_before _ _ (line_of_variable s k) (ih (omega (arith, o))))

-- two runs that are alike but for the variable
module _ (x : ℕ) (P P' : Program) (r r' : Run) (a : RunsAlike x P P' r r') where
  turns : length r.steps ≡ length r'.steps
  turns = ap (λ (n : Answer). n.turns) a.answer

  state_but : SameButLine x (lines_of_state P r.final) (lines_of_state P' r'.final)
  unfolding line_of_node
  state_but =
      rw (a.final, ← a.nodes, ← a.variables)
      (but_behind x _ _ (joined (line_of_node r.final) P.nodes) (variables_but x r.final a.value P.variables a.declared))

  run_but : SameButLine x (lines_of_run P r) (lines_of_run P' r')
  unfolding lines_of_run
  run_but =
      let line_in : List Entry → ℕ → List ℕ = λ es k. line_of_entry (get_or es k (entry 0 0 0 0)) in
      let entries : lines_of_entries r ≡ lines_of_entries r' = λ i. joined (line_in (a.entries i)) (turns i) in
      rw (← entries, ← a.answer)
      (but_behind x _ _ (lines_of_entries r) (but_behind x _ _ (end_line (answer_in r)) state_but))

  tallies_alike : lines_of_tallies P r ≡ lines_of_tallies P' r'
  unfolding lines_of_tallies
  tallies_alike = λ i. joined (λ n. tally_line n (a.tally n i)) (a.nodes i)

  ended_but : (more : List ℕ) → SameButLine x (lines_of_ended P r ++ more) (lines_of_ended P' r' ++ more)
  ended_but more =
      rw (← tallies_alike) (but_before x _ _ more (but_before x _ _ (lines_of_tallies P r) run_but))

-- what is printed for an accepted job, its turns given in either way: the lines of its run, and the total
lines-ran : (schedule : Schedule) (job : List ℕ) (b : Sizes) (past : List Command) → Bytes job → decode_by schedule job b ≡ accepted past
    → lines_monitored schedule job b
    ≡ lines_of_ended (program_of past) (run_of schedule true past).run ++ total_lines schedule (examined_in (run_of schedule true past).choices)
unfolding report monitored_run monitored_dispatch
lines-ran s.Written job b past bytes e =
    let printed : result_lines job (monitored job b) ≡ lines_of_job monitored_run (decode_for job b) = (lines_hold job b bytes).monitored_prints in
    let total : total_after s.Written (monitored job b) 0 ≡ [] =
    ap (λ (h : Handed). total_after s.Written h.result h.examined) (handed-ran s.Written true job b past e) in
    ap₂ (λ (l m : List ℕ). l ++ m) (printed ∙ ap (lines_of_job monitored_run) e) total
lines-ran (s.Dispatched budget) job b past bytes e =
    (dispatch_lines_hold budget job b bytes).monitored_prints ∙ ap (lines_of_dispatch (λ P. monitored_dispatch P budget)) e

pub secret_lines_hold : SecretLinesHold
secret_lines_hold schedule job job' x at S same bytes bytes' b =
    let both = alike schedule job job' x at S same b in
    record {
      refused = λ r e.
          let e' = both-refused (CommandsAlike schedule x) r (decode_by schedule job' b) (rw e at both) in
          ap (lines_by schedule job) (handed-refused schedule true job b r e)
          ∙ sym (ap (lines_by schedule job') (handed-refused schedule true job' b r e'));
      ran = λ past e.
          by_alike (CommandsAlike schedule x) (decode_by schedule job b) (decode_by schedule job' b) both
          (SameButLine x (lines_monitored schedule job b) (lines_monitored schedule job' b))
          (λ r q q'. apart (sym e ∙ q))
          (λ past₀ past' q q' a.
          rw (lines-ran schedule job b past₀ bytes q, lines-ran schedule job' b past' bytes' q', ← a.examined)
          (ended_but x (program_of past₀) (program_of past') (run_of schedule true past₀).run (run_of schedule true past').run a.runs
          (total_lines schedule (examined_in (run_of schedule true past₀).choices))));
    }
  where
    apart : {past : List Command} {r : Refusal} {A : Type 0} → accepted past ≡ rejected r → A
    apart e = let w : ◌≡◌ {A = ℕ} 0 1 = cc in absurd (omega arith)
