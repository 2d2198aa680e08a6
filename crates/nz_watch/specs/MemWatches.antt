-- What a watch in memory tells, and when it asks to stop.
use Rattle.std.specs.Prelude.{◌≡◌, ℕ, List, ◌-◌, ◌≤◌, ◌↔◌, ◌⊎◌, [], Option, Some, None, Bool, IsTrue, IsFalse, length, option_map, if◌then◌else◌, IsSomeAnd, MatchBool}
use Rattle.nz_watch.specs.Counts.{raised}
use Rattle.nz_watch.specs.declared.mem_watch.MemWatch.{MemWatch}
use Rattle.nz_watch.specs.Watching.{Pair}

-- the pairs, until more came than there is room for
abbrev pub pairs_of : MemWatch → Option (List Pair)
pairs_of watch = if watch.pairs.lost then None else Some watch.pairs.list.items

-- how many calls come before the first that asks to stop
abbrev pub calls_left : MemWatch → Option ℕ
calls_left watch = option_map (λ number. number - raised watch.calls) watch.stop_at

-- a watch with this room that was told nothing yet, of which the call with this number asks to stop
pub record IsNewWatch (room : ℕ) (stop_at : Option ℕ) (watch : MemWatch) : Type 0 where
  pub empty : pairs_of watch ≡ Some []
  pub space : watch.pairs.room ≡ room
  pub stopping : watch.stop_at ≡ stop_at
  pub uncalled : watch.calls ≡ 0
  pub no_stop : watch.stops ≡ 0

-- The call asks to stop exactly where its number is the given one or a later one, and then alone `stops` rises. The pairs are lost exactly where more came than there is room for.
pub record StageCounts (old new : MemWatch) (answer : Bool) : Type 0 where
  pub counted : new.calls ≡ raised old.calls
  pub stopping : new.stop_at ≡ old.stop_at
  pub asked : IsFalse answer ↔ IsSomeAnd old.stop_at (λ number. number ≤ raised old.calls)
  pub stops : MatchBool answer (new.stops ≡ old.stops) (new.stops ≡ raised old.stops)
  pub space : new.pairs.room ≡ old.pairs.room
  pub lost : IsTrue new.pairs.lost ↔ (IsTrue old.pairs.lost ⊎ (old.pairs.room ≤ length old.pairs.list.items))
