-- How many steps of the target there are at most in the parts of a row, and how far its live cells rise.
use Rattle.std.specs.Prelude.{ℕ, suc, ◌+◌, ◌≤◌}

-- what a piece does before control goes on, or it gives a frame to the driver; until control stands again in a piece, or the frame of another
-- leader is made; the beginning of the piece of a leader, and of a start; and the call of a cps `main` until nothing runs
pub record Bounds : Type 0 where
  pub leads : ℕ
  pub onward : ℕ
  pub resumes : ℕ
  pub begins : ℕ
  pub mains : ℕ
  -- the registers of a piece; and how far live cells rise at most above those at the first or the last state: where the piece of a leader is entered and goes to where
  -- it stands, where that of a start does, and in a whole row
  pub piece : ℕ
  pub takes : ℕ
  pub opens : ℕ
  pub rise : ℕ

-- a row of any kind has at most so many steps, and its live cells rise no further than they may
pub record Enough (b : Bounds) (n : ℕ) : Type 0 where
  pub goes : b.leads + suc (b.onward + (3 + b.resumes)) ≤ n
  pub calls : b.leads + (3 + b.begins) ≤ n
  pub begins : 7 + b.mains + b.begins ≤ n
  pub less : b.resumes ≤ b.begins
  pub in_place : (3 + b.piece) + (b.onward + b.takes) ≤ b.rise
  pub paused : (3 + b.piece) + (b.onward + 2) ≤ b.rise
  pub spawned : b.leads + (b.onward + b.takes) ≤ b.rise
  pub ended : b.leads + 2 ≤ b.rise
  pub called : b.leads + b.opens ≤ b.rise
  pub begun : b.mains + (6 + b.opens) ≤ b.rise
  pub taken : b.takes ≤ b.opens
