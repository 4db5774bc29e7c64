-- The numbers and the texts of the faults of a game.
use Rattle.std.specs.Prelude.{ℕ, List, ◌++◌, codes, decimal}
use Rattle.council_game.specs.declared.fault.GameFault.{GameFault}
use Rattle.council_game.specs.declared.fault.GameFault.TheVariants.{Read, TooLong, Text, UnknownKey, Title, Quota, Members, Name, SameName}
use Rattle.council_game.specs.declared.fault.GameFault.TheVariants.{Weight, QuotaRange, Bracket, Rules, Memory, Ways}

abbrev pub number_of : GameFault → ℕ
number_of Read = 1
number_of TooLong = 2
number_of Text = 3
number_of UnknownKey = 4
number_of Title = 5
number_of Quota = 6
number_of Members = 7
number_of (Name member) = 8
number_of (SameName member) = 9
number_of (Weight member) = 10
number_of QuotaRange = 11
number_of Bracket = 12
number_of Rules = 13
number_of Memory = 14
number_of Ways = 15

-- what each says
abbrev pub text_of : GameFault → List ℕ
text_of Read = codes "the game file cannot be read"
text_of TooLong = codes "the game file is longer than 65536 bytes"
text_of Text = codes "the game file is not TOML"
text_of UnknownKey = codes "unknown key"
text_of Title = codes "bad title"
text_of Quota = codes "bad quota"
text_of Members = codes "bad member list"
text_of (Name member) = codes "bad name of member " ++ decimal member
text_of (SameName member) = codes "member " ++ decimal member ++ codes " repeats a name"
text_of (Weight member) = codes "bad weight of member " ++ decimal member
text_of QuotaRange = codes "quota out of range"
text_of Bracket = codes "bad bracket text"
text_of Rules = codes "bad rules"
text_of Memory = codes "out of memory"
text_of Ways = codes "bad ways"
