-- In which order the clients (02: tablets) of a round are served, and how many probes (01: trials) each is offered. Clients are numbered from 1.
use Rattle.std.specs.Prelude.{cond, ℕ, zero, suc, ◌+◌, ◌-◌, ◌/◌, eqb, leb}

-- the client after t of m. 02: "1 after m"
abbrev pub after : (m t : ℕ) → ℕ
after m t = cond (eqb t m) 1 (suc t)

-- the client that is served behind i others. 02: "served in turn order, 1 after m, from a given first one"
abbrev pub client_at : (m first i : ℕ) → ℕ
client_at m first zero = first
client_at m first (suc i) = after m (client_at m first i)

-- behind how many others client t is served
abbrev pub turn_of : (m first t : ℕ) → ℕ
turn_of m first t = cond (leb first t) (t - first) (m - first + t)

-- `did t b` is how many probes client t does with a budget of b
module _ (did : ℕ → ℕ → ℕ) (m first budget : ℕ) where
  -- the probes that are left behind i clients, of which each was offered what was left then, divided by those still to serve. 02: "Its unused trials stay in
  -- what is left."
  unfoldable pub left_behind : (i : ℕ) → ℕ
  left_behind zero = budget
  left_behind (suc i) = left_behind i - did (client_at m first i) (left_behind i / (m - i))

  -- 02: "Each is offered the trials left divided by the tablets still to serve, rounded down"
  abbrev pub offered : (t : ℕ) → ℕ
  offered t = let i = turn_of m first t in left_behind i / (m - i)
