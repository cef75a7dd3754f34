-- The sheets K1 to K12 of document 01, "Sheets to try", a while, two of `and`, one of 15, one of unlike kinds, five lists of entries, and five askings of two solvers: what is run, and the whole of what must come out.
-- Assumes nothing: these are definitions.
use Rattle.std.specs.Prelude.{ℕ, ◌-◌, List, [], ◌∷◌, ◌++◌, ℤ, pos, negsuc, replicate, length, take, true, false}
use Rattle.tables.specs.Cells.{cells}
use Rattle.rules.specs.State.{State, fresh_state}
use Rattle.rules.specs.Start.{Ended, run}
use Rattle.rules.specs.Entries.{assigns}
use Rattle.rules.specs.Solvers.{Given, ask}

-- naturals as words, and a table of n words that begins with these
abbrev pub words : List ℕ → List ℤ
words [] = []
words (x ∷ xs) = pos x ∷ words xs

abbrev pub table : ℕ → List ℕ → List ℤ
table n xs = words xs ++ replicate (n - length xs) (pos 0)

-- a state by its three tables
abbrev pub tables : List ℤ → List ℤ → List ℤ → State
tables e h c = record { cells = cells e h; kept = c }

pub record Sheet : Type 0 where
  pub program : List ℤ
  pub proposals : List ℤ
  pub budget : ℤ
  pub answer : Ended

abbrev pub P : List ℤ
P = words (3 ∷ 2 ∷ 0 ∷ 2 ∷ 0 ∷ 23 ∷ 64 ∷ 1 ∷ 23 ∷ 16 ∷ 3 ∷ 1 ∷ 3 ∷ 25 ∷ 6 ∷ 24 ∷ 0 ∷ 1 ∷ 0 ∷ 25 ∷ 3 ∷ 23 ∷ 4 ∷ 24 ∷ 0 ∷ 1 ∷ 1 ∷ 1 ∷ 0 ∷ 1 ∷ 1 ∷ 23 ∷ 32 ∷ [])

-- variable 0 is record 0, which has fields 0 and 1; word 10 is kept or nothing is
abbrev pub two : ℕ → ℕ → List ℕ → State
two a b kept = tables (table 128 (4 ∷ 0 ∷ [])) (table 1601 (1 ∷ 2 ∷ 0 ∷ 3 ∷ a ∷ 1 ∷ 3 ∷ b ∷ [])) (table 98 kept)

abbrev pub K1 : Sheet
K1 = record {
  program = P;
  proposals = words (0 ∷ 0 ∷ 1 ∷ 64 ∷ 128 ∷ []);
  budget = pos 100;
  answer = record { outcome = 0; place = 33; steps = 3; accepted = 3; state = two 128 32 (1 ∷ 0 ∷ 10 ∷ []); unread = []; tests = [] };
}

abbrev pub K2 : Sheet
K2 = record {
  program = P;
  proposals = words (0 ∷ 0 ∷ 1 ∷ 65 ∷ 8 ∷ []);
  budget = pos 100;
  answer = record { outcome = 17; place = 27; steps = 3; accepted = 2; state = two 64 16 (1 ∷ 0 ∷ 10 ∷ []); unread = words (1 ∷ 65 ∷ 8 ∷ []); tests = [] };
}

abbrev pub K3 : Sheet
K3 = record {
  program = P;
  proposals = words (0 ∷ 0 ∷ 0 ∷ []);
  budget = pos 100;
  answer = record { outcome = 19; place = 27; steps = 3; accepted = 2; state = two 64 16 (1 ∷ 0 ∷ 10 ∷ []); unread = words (0 ∷ []); tests = [] };
}

abbrev pub K4 : Sheet
K4 = record {
  program = P;
  proposals = words (0 ∷ 1 ∷ 65 ∷ 17 ∷ []);
  budget = pos 100;
  answer = record { outcome = 18; place = 10; steps = 2; accepted = 1; state = two 64 16 (0 ∷ 0 ∷ 0 ∷ []); unread = words (1 ∷ 65 ∷ 17 ∷ []); tests = [] };
}

abbrev pub K5 : Sheet
K5 = record {
  program = P;
  proposals = words (0 ∷ 0 ∷ []);
  budget = pos 100;
  answer = record { outcome = 6; place = 27; steps = 3; accepted = 2; state = two 64 16 (1 ∷ 0 ∷ 10 ∷ []); unread = []; tests = [] };
}

-- K1's proposals, of which the last is not read
abbrev pub K6 : Sheet
K6 = record {
  program = P;
  proposals = words (0 ∷ 0 ∷ 1 ∷ 64 ∷ 128 ∷ []);
  budget = pos 2;
  answer = record { outcome = 5; place = 27; steps = 2; accepted = 2; state = two 64 16 (1 ∷ 0 ∷ 10 ∷ []); unread = words (1 ∷ 64 ∷ 128 ∷ []); tests = [] };
}

abbrev pub K7 : Sheet
K7 = record {
  program = words (0 ∷ []);
  proposals = [];
  budget = pos 100;
  answer = record { outcome = 0; place = 1; steps = 0; accepted = 0; state = tables (table 128 []) (table 1601 []) (table 98 []); unread = []; tests = [] };
}

-- K7, second half: no words
abbrev pub K7' : Sheet
K7' = record {
  program = [];
  proposals = [];
  budget = pos 100;
  answer = record { outcome = 2; place = 0; steps = 0; accepted = 0; state = tables (table 128 []) (table 1601 []) (table 98 []); unread = []; tests = [] };
}

-- x new; y := x; always x == y; x new
abbrev pub four : List ℕ → List ℤ
four more = words (2 ∷ 0 ∷ 0 ∷ 1 ∷ 1 ∷ 0 ∷ 24 ∷ 0 ∷ 0 ∷ 5 ∷ 0 ∷ 0 ∷ 1 ∷ 0 ∷ 2 ∷ 0 ∷ 0 ∷ more)

abbrev pub tied : State
tied = tables (table 128 (4 ∷ 1 ∷ 4 ∷ 1 ∷ [])) (table 1601 (2 ∷ [])) (table 98 (0 ∷ 1 ∷ replicate 64 0 ++ (10 ∷ [])))

abbrev pub K8 : Sheet
K8 = record {
  program = pos 4 ∷ four [];
  proposals = words (0 ∷ 0 ∷ 0 ∷ 0 ∷ []);
  budget = pos 100;
  answer = record { outcome = 0; place = 18; steps = 4; accepted = 3; state = tied; unread = words (0 ∷ []); tests = [] };
}

abbrev pub K9 : Sheet
K9 = record {
  program = pos 5 ∷ four (1 ∷ 1 ∷ 0 ∷ 23 ∷ 5 ∷ []);
  proposals = words (0 ∷ 0 ∷ 0 ∷ 0 ∷ []);
  budget = pos 100;
  answer = record { outcome = 13; place = 18; steps = 5; accepted = 3; state = tied; unread = words (0 ∷ []); tests = [] };
}

-- x := new {0: nil}; x.0 := x; x.0.0 := nil
abbrev pub K10 : Sheet
K10 = record {
  program = words (3 ∷ 2 ∷ 0 ∷ 1 ∷ 0 ∷ 20 ∷ 1 ∷ 0 ∷ 1 ∷ 0 ∷ 24 ∷ 0 ∷ 0 ∷ 1 ∷ 0 ∷ 2 ∷ 0 ∷ 0 ∷ 20 ∷ []);
  proposals = words (0 ∷ 0 ∷ 0 ∷ []);
  budget = pos 100;
  answer = record {
    outcome = 12;
    place = 13;
    steps = 3;
    accepted = 2;
    state = tables (table 128 (4 ∷ 0 ∷ [])) (table 1601 (1 ∷ 1 ∷ 0 ∷ 4 ∷ 0 ∷ [])) (table 98 []);
    unread = words (0 ∷ []);
    tests = [];
  };
}

-- x := new {0: 1}; always required x.0 > 0; x := new {1: 5}
abbrev pub K11 : Sheet
K11 = record {
  program = words (3 ∷ 2 ∷ 0 ∷ 1 ∷ 0 ∷ 23 ∷ 1 ∷ 3 ∷ 1 ∷ 3 ∷ 25 ∷ 9 ∷ 24 ∷ 0 ∷ 1 ∷ 0 ∷ 23 ∷ 0 ∷ 2 ∷ 0 ∷ 1 ∷ 1 ∷ 23 ∷ 5 ∷ []);
  proposals = words (0 ∷ 0 ∷ 0 ∷ []);
  budget = pos 100;
  answer = record {
    outcome = 15;
    place = 13;
    steps = 3;
    accepted = 2;
    state = tables (table 128 (4 ∷ 0 ∷ [])) (table 1601 (1 ∷ 1 ∷ 0 ∷ 3 ∷ 1 ∷ [])) (table 98 (1 ∷ 0 ∷ 7 ∷ []));
    unread = words (0 ∷ []);
    tests = [];
  };
}

-- x := -2147483648 - 1
abbrev pub K12 : Sheet
K12 = record {
  program = words (1 ∷ 1 ∷ 0 ∷ 0 ∷ 25 ∷ 2 ∷ 23 ∷ []) ++ (negsuc 2147483647 ∷ words (23 ∷ 1 ∷ []));
  proposals = words (0 ∷ []);
  budget = pos 100;
  answer = record { outcome = 9; place = 4; steps = 1; accepted = 0; state = tables (table 128 []) (table 1601 []) (table 98 []); unread = words (0 ∷ []); tests = [] };
}

-- the last literal of P made 1000000000
abbrev pub K12' : Sheet
K12' = record {
  program = take 32 P ++ words (1000000000 ∷ []);
  proposals = words (0 ∷ 0 ∷ 0 ∷ []);
  budget = pos 100;
  answer = record { outcome = 19; place = 27; steps = 3; accepted = 2; state = two 64 16 (1 ∷ 0 ∷ 10 ∷ []); unread = words (0 ∷ []); tests = [] };
}

-- x := 0; while x < 5 { x := x + 1 }
abbrev pub W1 : Sheet
W1 = record {
  program = words (2 ∷ 1 ∷ 0 ∷ 0 ∷ 23 ∷ 0 ∷ 8 ∷ 25 ∷ 4 ∷ 24 ∷ 0 ∷ 0 ∷ 23 ∷ 5 ∷ 1 ∷ 1 ∷ 0 ∷ 0 ∷ 25 ∷ 1 ∷ 24 ∷ 0 ∷ 0 ∷ 23 ∷ 1 ∷ []);
  proposals = replicate 6 (pos 0);
  budget = pos 1000000;
  answer = record { outcome = 0; place = 25; steps = 12; accepted = 6; state = tables (table 128 (3 ∷ 5 ∷ [])) (table 1601 []) (table 98 []); unread = []; tests = false ∷ true ∷ true ∷ true ∷ true ∷ true ∷ [] };
}

-- x := false and 1; x := false and y, where y is absent: "Both operands are always evaluated"
abbrev pub A1 : Sheet
A1 = record {
  program = words (1 ∷ 1 ∷ 0 ∷ 0 ∷ 25 ∷ 10 ∷ 21 ∷ 23 ∷ 1 ∷ []);
  proposals = words (0 ∷ []);
  budget = pos 100;
  answer = record { outcome = 8; place = 4; steps = 1; accepted = 0; state = tables (table 128 []) (table 1601 []) (table 98 []); unread = words (0 ∷ []); tests = [] };
}

abbrev pub A2 : Sheet
A2 = record {
  program = words (1 ∷ 1 ∷ 0 ∷ 0 ∷ 25 ∷ 10 ∷ 21 ∷ 24 ∷ 1 ∷ 0 ∷ []);
  proposals = words (0 ∷ []);
  budget = pos 100;
  answer = record { outcome = 7; place = 8; steps = 1; accepted = 0; state = tables (table 128 []) (table 1601 []) (table 98 []); unread = words (0 ∷ []); tests = [] };
}

-- x := new {0: 1}; always required x.0 > 0, twice; x := new {1: 5}: 15 in the first of the two
abbrev pub L1 : Sheet
L1 = record {
  program = words (4 ∷ 2 ∷ 0 ∷ 1 ∷ 0 ∷ 23 ∷ 1 ∷ 3 ∷ 1 ∷ 3 ∷ 25 ∷ 9 ∷ 24 ∷ 0 ∷ 1 ∷ 0 ∷ 23 ∷ 0 ∷ 3 ∷ 1 ∷ 3 ∷ 25 ∷ 9 ∷ 24 ∷ 0 ∷ 1 ∷ 0 ∷ 23 ∷ 0 ∷ 2 ∷ 0 ∷ 1 ∷ 1 ∷ 23 ∷ 5 ∷ []);
  proposals = words (0 ∷ 0 ∷ 0 ∷ 0 ∷ []);
  budget = pos 100;
  answer = record {
    outcome = 15;
    place = 13;
    steps = 4;
    accepted = 3;
    state = tables (table 128 (4 ∷ 0 ∷ [])) (table 1601 (1 ∷ 1 ∷ 0 ∷ 3 ∷ 1 ∷ [])) (table 98 (2 ∷ 0 ∷ 7 ∷ 18 ∷ []));
    unread = words (0 ∷ []);
    tests = [];
  };
}

-- x := 5 = true (02, W4)
abbrev pub U1 : Sheet
U1 = record {
  program = words (1 ∷ 1 ∷ 0 ∷ 0 ∷ 25 ∷ 6 ∷ 23 ∷ 5 ∷ 22 ∷ []);
  proposals = words (0 ∷ []);
  budget = pos 100;
  answer = record { outcome = 8; place = 4; steps = 1; accepted = 0; state = tables (table 128 []) (table 1601 []) (table 98 []); unread = words (0 ∷ []); tests = [] };
}

abbrev pub sheets : List Sheet
sheets = K1 ∷ K2 ∷ K3 ∷ K4 ∷ K5 ∷ K6 ∷ K7 ∷ K7' ∷ K8 ∷ K9 ∷ K10 ∷ K11 ∷ K12 ∷ K12' ∷ W1 ∷ A1 ∷ A2 ∷ L1 ∷ U1 ∷ []

-- what the definitions give, and what 01 says
unfoldable pub given : List Sheet → List Ended
given [] = []
given (s ∷ ss) = run s.program s.proposals s.budget fresh_state ∷ given ss

unfoldable pub wanted : List Sheet → List Ended
wanted [] = []
wanted (s ∷ ss) = s.answer ∷ wanted ss

-- ---- lists of entries (02, W3), over P and what its first two statements left

pub record Listing : Type 0 where
  pub entries : List ℤ
  pub proposals : List ℤ
  pub budget : ℤ
  pub answer : Ended

-- x.1 := 32; x.1 := 8
abbrev pub E1 : Listing
E1 = record {
  entries = words (0 ∷ 1 ∷ 1 ∷ 23 ∷ 32 ∷ 0 ∷ 1 ∷ 1 ∷ 23 ∷ 8 ∷ []);
  proposals = words (1 ∷ 64 ∷ 128 ∷ 1 ∷ 64 ∷ 32 ∷ 0 ∷ []);
  budget = pos 2;
  answer = record { outcome = 0; place = 2; steps = 2; accepted = 2; state = two 32 8 (1 ∷ 0 ∷ 10 ∷ []); unread = words (0 ∷ []); tests = [] };
}

-- the same with no proposal for the second: 6
abbrev pub E2 : Listing
E2 = record {
  entries = words (0 ∷ 1 ∷ 1 ∷ 23 ∷ 32 ∷ 0 ∷ 1 ∷ 1 ∷ 23 ∷ 8 ∷ []);
  proposals = words (1 ∷ 64 ∷ 128 ∷ []);
  budget = pos 2;
  answer = record { outcome = 6; place = 1; steps = 2; accepted = 1; state = two 128 32 (1 ∷ 0 ∷ 10 ∷ []); unread = []; tests = [] };
}

-- the second has no literal: 23, though no step is left
abbrev pub E3 : Listing
E3 = record {
  entries = words (0 ∷ 1 ∷ 1 ∷ 23 ∷ 32 ∷ 0 ∷ 1 ∷ 1 ∷ 24 ∷ 0 ∷ 0 ∷ []);
  proposals = words (1 ∷ 64 ∷ 128 ∷ 0 ∷ []);
  budget = pos 1;
  answer = record { outcome = 23; place = 1; steps = 1; accepted = 1; state = two 128 32 (1 ∷ 0 ∷ 10 ∷ []); unread = words (0 ∷ []); tests = [] };
}

-- the second reads, and no step is left: 5, and the third, which does not read, is not looked at
abbrev pub E4 : Listing
E4 = record {
  entries = words (0 ∷ 1 ∷ 1 ∷ 23 ∷ 32 ∷ 0 ∷ 1 ∷ 1 ∷ 23 ∷ 8 ∷ 99 ∷ []);
  proposals = words (1 ∷ 64 ∷ 128 ∷ 1 ∷ 64 ∷ 32 ∷ []);
  budget = pos 1;
  answer = record { outcome = 5; place = 1; steps = 1; accepted = 1; state = two 128 32 (1 ∷ 0 ∷ 10 ∷ []); unread = words (1 ∷ 64 ∷ 32 ∷ []); tests = [] };
}

abbrev pub E5 : Listing
E5 = record {
  entries = [];
  proposals = words (0 ∷ []);
  budget = pos 0;
  answer = record { outcome = 0; place = 0; steps = 0; accepted = 0; state = two 64 16 (1 ∷ 0 ∷ 10 ∷ []); unread = words (0 ∷ []); tests = [] };
}

abbrev pub listings : List Listing
listings = E1 ∷ E2 ∷ E3 ∷ E4 ∷ E5 ∷ []

unfoldable pub given_lists : List Listing → List Ended
given_lists [] = []
given_lists (x ∷ xs) = assigns P x.entries x.proposals x.budget (two 64 16 (1 ∷ 0 ∷ 10 ∷ [])) ∷ given_lists xs

unfoldable pub wanted_lists : List Listing → List Ended
wanted_lists [] = []
wanted_lists (x ∷ xs) = x.answer ∷ wanted_lists xs

-- ---- one statement with two proposals (02, W6), over P and what its first two statements left

pub record Asking : Type 0 where
  pub word : ℤ
  pub first : List ℤ
  pub second : List ℤ
  pub answer : Given

-- x.1 := 32: the first would move the target (17), the second has the length
abbrev pub Q1 : Asking
Q1 = record {
  word = pos 27;
  first = words (1 ∷ 65 ∷ 8 ∷ []);
  second = words (1 ∷ 64 ∷ 128 ∷ []);
  answer = record { outcome = 0; place = pos 27; solver = 2; words = words (1 ∷ 64 ∷ 128 ∷ []); state = two 128 32 (1 ∷ 0 ∷ 10 ∷ []) };
}

-- the first has it, and the second is not looked at
abbrev pub Q2 : Asking
Q2 = record {
  word = pos 27;
  first = words (1 ∷ 64 ∷ 128 ∷ []);
  second = words (0 ∷ 0 ∷ []);
  answer = record { outcome = 0; place = pos 27; solver = 1; words = words (1 ∷ 64 ∷ 128 ∷ []); state = two 128 32 (1 ∷ 0 ∷ 10 ∷ []) };
}

-- a word is left after the first (16), and the second moves nothing (19)
abbrev pub Q3 : Asking
Q3 = record {
  word = pos 27;
  first = words (1 ∷ 64 ∷ 128 ∷ 0 ∷ []);
  second = words (0 ∷ []);
  answer = record { outcome = 19; place = pos 27; solver = 0; words = []; state = two 64 16 (1 ∷ 0 ∷ 10 ∷ []) };
}

-- it would move the target, a word is left (16), and the second is empty
abbrev pub Q4 : Asking
Q4 = record {
  word = pos 27;
  first = words (1 ∷ 65 ∷ 8 ∷ 0 ∷ []);
  second = [];
  answer = record { outcome = 16; place = pos 27; solver = 0; words = []; state = two 64 16 (1 ∷ 0 ∷ 10 ∷ []) };
}

-- no statement begins there
abbrev pub Q5 : Asking
Q5 = record {
  word = negsuc 0;
  first = words (0 ∷ []);
  second = [];
  answer = record { outcome = 2; place = negsuc 0; solver = 0; words = []; state = two 64 16 (1 ∷ 0 ∷ 10 ∷ []) };
}

abbrev pub askings : List Asking
askings = Q1 ∷ Q2 ∷ Q3 ∷ Q4 ∷ Q5 ∷ []

unfoldable pub given_askings : List Asking → List Given
given_askings [] = []
given_askings (x ∷ xs) = ask P x.word x.first x.second (two 64 16 (1 ∷ 0 ∷ 10 ∷ [])) ∷ given_askings xs

unfoldable pub wanted_askings : List Asking → List Given
wanted_askings [] = []
wanted_askings (x ∷ xs) = x.answer ∷ wanted_askings xs
