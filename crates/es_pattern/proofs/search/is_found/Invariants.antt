use Rattle.es_pattern.proofs.search.is_found.Given as goal

abbrev pub ghosts-search_counted : goal.ghosts-search_counted
ghosts-search_counted a = record { name = a.blank.name; parts = a.blank.parts }
