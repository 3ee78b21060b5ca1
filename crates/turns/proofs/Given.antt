-- The run of a job's commands turn by turn, its turns given in either way.
use Prim.Native.Nat.{ℕ, zero, suc, ◌+◌, ◌≤◌, ◌<◌}
use mathlib.Core.Path.{◌≡◌, refl, sym, ap, ◌∙◌}
use mathlib.Core.List.{List, [], ◌∷◌, ◌++◌, append_assoc, append-nil}
use native.Mathlib.Omega.{arith}
use lib.ListN.{length, get_or, drop, drop_of_length-le}
use lib.Seq.{drop-cons}
use native.Mathlib.Numerals.{add-one}
use mathlib.Core.Bool.{Bool}
use Rattle.model.specs.Command.{Command}
use Rattle.model.specs.Declared.{turns_of}
use Rattle.model.specs.Program.{program_of}
use Rattle.model.specs.State.{State, initial_state}
use Rattle.model.specs.Turn.{Entry, entry, Turned, completed, stopped}
use Rattle.model.specs.Run.{Run, Step, ended, after, proceed, run_from}
use Rattle.model.specs.Valid.{Valid}
use Rattle.model.specs.Dispatch.{Choice, chosen, nobody, choose, Dispatched, pursue, serve, dispatch_from, examined_for, examined_in}
use Rattle.model.specs.Dispatching.{Chooses, found, nobody_found}
use Rattle.model.proofs.Choosing.{round_below, chooses}
use Rattle.model.proofs.Naming.{turns-inside}
use Rattle.model.proofs.Runs.{behind}
use Rattle.entries.specs.Entries.{rule_of}
use Rattle.job.specs.declared.schedule.Schedule.{Schedule}
use Rattle.job.specs.declared.schedule.Schedule.TheVariants as s
use Rattle.turns.specs.Runs.{run_of}

-- how many turns a run of a job's commands may make
abbrev pub turns_for : Schedule → List Command → ℕ
turns_for s.Written past = length (turns_of past)
turns_for (s.Dispatched budget) past = budget

-- whose turn k is in a state, going round from a number on
abbrev pub choice_for : Schedule → List Command → ℕ → ℕ → State → Choice
choice_for s.Written past k from x = chosen (get_or (turns_of past) k 0) 0
choice_for (s.Dispatched budget) past k from x = choose (program_of past).nodes from x

-- the run of so many turns from turn k on, by a rule for one turn and by whose turn each is
unfoldable pub run_by : (State → ℕ → Turned) → (ℕ → ℕ → State → Choice) → ℕ → ℕ → ℕ → State → Dispatched
run_by rule choice zero k from x = record { run = ended x 0 (entry 0 0 0 0); choices = [] }
run_by rule choice (suc left) k from x = serve rule (run_by rule choice left (k + 1)) x (choice k from x)

-- a run after turns and choices that are made already: what the loop keeps
unfoldable pub ahead : List Step → List Choice → Dispatched → Dispatched
ahead done cs d = record { run = behind done d.run; choices = cs ++ d.choices }

-- a run that is over after these turns and choices
abbrev pub over_after : List Step → List Choice → ℕ → Entry → State → Dispatched
over_after done cs j e x = record { run = record { steps = done; stop = j; attempted = e; final = x }; choices = cs }

pub ahead_none : (d : Dispatched) → ahead [] [] d ≡ d
unfolding ahead behind
ahead_none d = refl

-- turn k: its node's turn is completed, or stopped, or nobody is chosen, or there is none
module _ (rule : State → ℕ → Turned) (choice : ℕ → ℕ → State → Choice) (done : List Step) (cs : List Choice) (k from : ℕ) (x : State) where
  pub ahead-over : ahead done cs (run_by rule choice 0 k from x) ≡ over_after done cs 0 (entry 0 0 0 0) x
  unfolding ahead behind run_by
  ahead-over = simp append-nil

  module _ (left : ℕ) where
    pub ahead-nobody : (c : ℕ) → choice k from x ≡ nobody c
        → ahead done cs (run_by rule choice (suc left) k from x) ≡ over_after done (cs ++ (nobody c ∷ [])) 4 (entry 0 0 0 0) x
    unfolding ahead behind run_by
    ahead-nobody c e = simp (e, append-nil)

    module _ (n c : ℕ) (e : choice k from x ≡ chosen n c) where
      pub ahead-stopped : (j : ℕ) (a : Entry) → rule x n ≡ stopped j a
          → ahead done cs (run_by rule choice (suc left) k from x) ≡ over_after done (cs ++ (chosen n c ∷ [])) j a x
      unfolding ahead behind run_by
      ahead-stopped j a t = simp (e, t, append-nil)

      pub ahead-completed : (a : Entry) (y : State) → rule x n ≡ completed a y
          → ahead done cs (run_by rule choice (suc left) k from x)
          ≡ ahead (done ++ (record { before = x; made = a } ∷ [])) (cs ++ (chosen n c ∷ [])) (run_by rule choice left (k + 1) (n + 1) y)
      unfolding ahead behind run_by
      ahead-completed a y t = simp (e, t, append_assoc)

-- what is examined for one choice more
pub examined_snoc : (cs : List Choice) (c : Choice) → examined_in (cs ++ (c ∷ [])) ≡ examined_in cs + examined_for c
unfolding examined_in
examined_snoc [] c = omega arith
examined_snoc (d ∷ cs) c = omega (arith, examined_snoc cs c)

-- the two ways: written turns, for which nobody is examined
module _ (rule : State → ℕ → Turned) (turns : List ℕ) where
  abbrev written : ℕ → ℕ → State → Choice
  written k from x = chosen (get_or turns k 0) 0

  pursued : (rest : State → Dispatched) (rest' : State → Run) → ((y : State) → (rest y).run ≡ rest' y) → (c : Choice) (x : State) (t :
      Turned)
      → (pursue rest c x t).run ≡ proceed rest' x t
  pursued rest rest' same c x (completed e y) = ap (after x e) (same y)
  pursued rest rest' same c x (stopped j e) = refl

  written-run : (left k from : ℕ) (x : State) → left + k ≡ length turns → (run_by rule written left k from x).run ≡ run_from rule (drop k
      turns) x
  unfolding run_by run_from
  written-run zero k from x e =
      let all : length turns ≤ k = omega arith in
      sym (ap (λ (l : List ℕ). run_from rule l x) (drop_of_length-le turns all))
  written-run (suc left) k from x e =
      let there : drop k turns ≡ get_or turns k 0 ∷ drop (k + 1) turns =
      drop-cons turns k 0 (omega arith) ∙ ap (λ (i : ℕ). get_or turns k 0 ∷ drop i turns) (sym (add-one k)) in
      pursued (run_by rule written left (k + 1) (get_or turns k 0 + 1)) (run_from rule (drop (k + 1) turns))
      (λ y. written-run left (k + 1) (get_or turns k 0 + 1) y (omega arith)) (chosen (get_or turns k 0) 0) x (rule x (get_or turns k 0))
      ∙ ap (λ (l : List ℕ). run_from rule l x) (sym there)

  unexamined : (rest : State → Dispatched) → ((y : State) → examined_in (rest y).choices ≡ 0) → (n : ℕ) (x : State) (t : Turned)
      → examined_in (pursue rest (chosen n 0) x t).choices ≡ 0
  unfolding examined_in
  unexamined rest nothing n x (completed e y) = omega (arith, nothing y)
  unexamined rest nothing n x (stopped j e) = refl

  written-examined : (left k from : ℕ) (x : State) → examined_in (run_by rule written left k from x).choices ≡ 0
  unfolding run_by examined_in
  written-examined zero k from x = refl
  written-examined (suc left) k from x =
      unexamined (run_by rule written left (k + 1) (get_or turns k 0 + 1)) (written-examined left (k + 1) (get_or turns k 0 + 1)) (get_or turns k
      0) x
      (rule x (get_or turns k 0))

-- and dispatched ones
dispatched-run : (rule : State → ℕ → Turned) (nodes left k from : ℕ) (x : State)
    → run_by rule (λ k. choose nodes) left k from x ≡ dispatch_from rule nodes left from x
unfolding run_by dispatch_from
dispatched-run rule nodes zero k from x = refl
dispatched-run rule nodes (suc left) k from x =
    λ i. serve rule (λ m y. dispatched-run rule nodes left (k + 1) m y i) x (choose nodes from x)

-- two runs with the same turns and the same examined total
pub record SameRun (d e : Dispatched) : Type 0 where
  pub run : d.run ≡ e.run
  pub examined : examined_in d.choices ≡ examined_in e.choices

-- the whole run, turn by turn
abbrev pub whole_run : Schedule → Bool → List Command → Dispatched
whole_run schedule monitored past =
    run_by (rule_of monitored (program_of past)) (choice_for schedule past) (turns_for schedule past) 0 0 (initial_state (program_of past))

pub whole_run_lem : (schedule : Schedule) (monitored : Bool) (past : List Command) → SameRun (whole_run schedule monitored past) (run_of
    schedule monitored past)
unfolding examined_in
whole_run_lem s.Written monitored past =
    let rule = rule_of monitored (program_of past) in
    let x = initial_state (program_of past) in
    record {
      run = written-run rule (turns_of past) (length (turns_of past)) 0 0 x (omega arith);
      examined = written-examined rule (turns_of past) (length (turns_of past)) 0 0 x;
    }
whole_run_lem (s.Dispatched budget) monitored past =
    let same = dispatched-run (rule_of monitored (program_of past)) (program_of past).nodes budget 0 0 (initial_state (program_of past)) in
    record { run = ap (λ (d : Dispatched). d.run) same; examined = ap (λ (d : Dispatched). examined_in d.choices) same }

-- a choice is one of the nodes, and at most all of them are examined for it
abbrev pub Within : ℕ → Choice → Type 0
Within nodes (chosen n k) = (n < nodes) × (k ≤ nodes)
Within nodes (nobody k) = k ≤ nodes

chosen-within : (nodes from : ℕ) (x : State) → from ≤ nodes → (c : Choice) → Chooses nodes from x c → Within nodes c
chosen-within nodes from x low _ (found i near r earlier) = (round_below nodes from i low near, omega arith)
chosen-within nodes from x low _ (nobody_found all) = omega arith

pub choice-within : (schedule : Schedule) (past : List Command) → Valid past → (k from : ℕ) (x : State) → k < turns_for schedule past
    → from ≤ (program_of past).nodes → Within (program_of past).nodes (choice_for schedule past k from x)
unfolding program_of
choice-within s.Written past v k from x h low = (turns-inside past v k h, omega arith)
choice-within (s.Dispatched budget) past v k from x h low =
    chosen-within (program_of past).nodes from x low (choose (program_of past).nodes from x) (chooses (program_of past).nodes from x)
