pub mod RulesText
