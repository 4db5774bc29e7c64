-- What the searches at functions may use.
use Rattle.council_game.proofs.Shared.{Meanings.weighs-its-members, Meanings.needs-each-member, RankPlaces.game-rank_places}
use Rattle.council_game.proofs.{Imports.length-range_with_len, Shared.Lists.count_one_more, Shared.Subsets.subsets-lose}
use Rattle.council_game.proofs.Shared.Renamed.{renamed-rules, renamed-alike, equal-weights}
use Rattle.council_game.proofs.Shared.{Games.votes-are, Listing.listing-is, Making.ranks-are, Sets.each-set, Sets.needs-each-of, Sets.subsets-of-lose, Renamed.same-by-members}
use Rattle.std.proofs.lemmas.List.Sums.{count_by-le-length}

pub ruleset for_was_checked = (votes-are, game-rank_places, ranks-are)

pub ruleset for_laws = (listing-is, weighs-its-members, needs-each-member, subsets-lose, needs-each-of, subsets-of-lose, ranks-are)

pub ruleset for_rank_place = (count_one_more, count_by-le-length, length-range_with_len)

pub ruleset for_sets = (each-set, same-by-members)

pub ruleset for_renaming = (renamed-rules, renamed-alike, equal-weights)
