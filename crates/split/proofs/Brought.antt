-- What comes into a part for a block, and behind it. Assumes nothing.
use Prim.Native.Nat.{ℕ}
use mathlib.Core.Bool.{Bool, true, false, cond}
use mathlib.Core.List.{List, [], ◌∷◌, ◌++◌}
use mathlib.Core.Path.{◌≡◌, refl, sym}
use Rattle.std.specs.Prelude.{Some, None}
use Rattle.std.proofs.lemmas.Option.{cond_some, none-some}
use Rattle.split.specs.Parts.{is_dosed_in, dosed_period, has_run, shared_in, behind, brought_by}
use Rattle.split.specs.Code.Wanted.{run_behind}
use Rattle.split.specs.declared.run.Run.{Run}

-- what comes behind a dosed period: what the empty periods share with the run there, if there is one
no_run : {A : Type 0} (t : Bool) (x : A) → None ≡ cond t (Some x) None → t ≡ false
no_run true x e = absurd (none-some x e)
no_run false x e = refl

module _ (marked : Bool) (p : List ℕ) (b : ℕ) where
  pub behind_run : (run : Run) → Some run ≡ run_behind marked p b → behind marked p b ≡ shared_in p run.first run.last
  unfolding behind
  behind_run run e = let h = cond_some (has_run marked p b) _ run (sym e) in rw (h.0, ← h.1)

  pub behind_none : None ≡ run_behind marked p b → behind marked p b ≡ []
  unfolding behind
  behind_none e = rw (no_run (has_run marked p b) _ e)

-- what comes for a block
module _ (marked : Bool) (p : List ℕ) (b : ℕ) where
  pub brought_none : is_dosed_in marked p b ≡ false → brought_by marked p b ≡ []
  unfolding brought_by
  brought_none e = rw e

  pub brought_some : is_dosed_in marked p b ≡ true → brought_by marked p b ≡ (dosed_period marked p b ∷ []) ++ behind marked p b
  unfolding brought_by
  brought_some e = rw e
