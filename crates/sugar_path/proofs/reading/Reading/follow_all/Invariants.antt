use Rattle.std.proofs.Common.{◌≡◌, ◌≤◌, ◌+◌, ◌-◌, false, drop, length, vec_len}
use Rattle.sugar_path.specs.Path.{ends_in_slash, with_slash, parts}
use Rattle.sugar_path.specs.Route.{Route, route_by_parts}
use Rattle.sugar_path.specs.Reading.{HasRead, read_text}
use Rattle.sugar_path.proofs.reading.Reading.follow_all.Given as goal

-- what was read, and what is left to read, lead where all of it leads
abbrev pub invariant-loop-at : goal.invariant-loop-at
invariant-loop-at l = record {
  read : (r : Route) → HasRead r l.fn.self → (s : Route) × HasRead s l.self
      × (route_by_parts s (parts (drop l.at l.fn.self.text.items)) ≡ route_by_parts r
      (parts (drop l.fn.self.len l.fn.self.text.items)));
  rest : drop l.at l.self.text.items ≡ drop l.at l.fn.self.text.items;
  room : length (with_slash (read_text l.self)) ≤ l.at;
  passed : l.self.len ≤ l.at;
  within : l.at ≤ vec_len l.fn.self.text + 1;
  size : vec_len l.self.text ≡ vec_len l.fn.self.text;
  last : l.at ≡ vec_len l.fn.self.text + 1 → ends_in_slash l.fn.self.text.items ≡ false;
}

abbrev pub decreases-loop-at : goal.decreases-loop-at
decreases-loop-at l = vec_len l.self.text + 1 - l.at
